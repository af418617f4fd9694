-- The checks of a line of a listing, part by part: its names are
-- declared and of their sorts, and the kind has what the line needs.
use Rattle.std.specs.Prelude.{ℕ, Bool, Option, Some, None, Result, Ok, Err, if◌then◌else◌}
use Rattle.snap_words.specs.Kind.{has_bank, has_field, has_handshakes, has_view}
use Rattle.snap_words.specs.declared.address.Bank.TheVariants as bank
use Rattle.snap_words.specs.declared.kind.KindTag.TheVariants as kind
use Rattle.snap_semantics.specs.declared.instr.Comparison.{Comparison}
use Rattle.snap_semantics.specs.declared.instr.Condition.{Condition}
use Rattle.snap_semantics.specs.declared.instr.Condition.TheVariants.{One, Two, Three, Four}
use Rattle.snap_semantics.specs.declared.instr.Expr.{Expr}
use Rattle.snap_semantics.specs.declared.instr.Expr.TheVariants as expr
use Rattle.snap_semantics.specs.declared.instr.Index.{Index}
use Rattle.snap_semantics.specs.declared.instr.Index.TheVariants as index
use Rattle.snap_semantics.specs.declared.instr.Instr.{Instr}
use Rattle.snap_semantics.specs.declared.instr.Instr.TheVariants.{Let, LetPlace, Get, Bit, Look, Put, PutBit, PutView}
use Rattle.snap_semantics.specs.declared.instr.Instr.TheVariants.{ViewData, ViewOf, Each, First, Next, If, IfAll}
use Rattle.snap_semantics.specs.declared.instr.Instr.TheVariants.{Goto, Call, Return, Finish}
use Rattle.snap_semantics.specs.declared.instr.Term.{Term}
use Rattle.snap_semantics.specs.declared.instr.Term.TheVariants as term
use Rattle.snap_semantics.specs.declared.instr.Tuple.{Tuple}
use Rattle.snap_semantics.specs.declared.instr.Tuple.TheVariants as tuple
use Rattle.snap_semantics.specs.declared.refusal.ListingRefusal.{ListingRefusal}
use Rattle.snap_semantics.specs.declared.refusal.ListingRefusal.TheVariants as refusal
use Rattle.snap_semantics.specs.declared.text.Sort.{Sort}
use Rattle.snap_semantics.specs.declared.text.Sort.TheVariants as sort
use Rattle.snap_semantics.specs.Answers.{◌>>=◌}
use Rattle.snap_semantics.specs.Source.{Name, Source}
use Rattle.snap_semantics.specs.Table.{bank_of}
use Rattle.snap_semantics.specs.Uses.{sort_of, use_of_sort, same_kind}

abbrev pub Checked : Type 0
Checked = Result (Unit {0}) ListingRefusal

-- a name in the place of this sort
abbrev pub checked_name : Source → ℕ → Sort → Name → Checked
checked_name s line wanted x = use_of_sort line wanted (sort_of s x)

-- what the kind has to have
abbrev pub checked_kind : ℕ → Bool → Checked
checked_kind line has = if has then Ok tt else Err (refusal.WrongKind line)

abbrev pub checked_index : Source → ℕ → Index → Checked
checked_index s line (index.Number k) = Ok tt
checked_index s line index.Processes = Ok tt
checked_index s line index.Words = Ok tt
checked_index s line index.Me = Ok tt
checked_index s line index.Word = Ok tt
checked_index s line index.Place = Ok tt
checked_index s line (index.Scalar x) = checked_name s line sort.Scalar x

abbrev pub checked_indexes : Source → ℕ → Index → Index → Checked
checked_indexes s line i j = checked_index s line i >>= λ done. checked_index s line j

-- a local of this sort, and a place of it
abbrev pub checked_place : Source → ℕ → Sort → Name → Index → Checked
checked_place s line wanted x i = checked_name s line wanted x >>= λ done. checked_index s line i

abbrev pub checked_term : Source → ℕ → Term → Checked
checked_term s line (term.Index i) = checked_index s line i
checked_term s line term.Arg = Ok tt
checked_term s line (term.Row x i) = checked_place s line sort.Row x i
checked_term s line (term.Field f x i) =
    checked_kind line (has_field s.kind f) >>= λ done. checked_place s line sort.Words x i
checked_term s line (term.Handshake x i j) =
    checked_kind line (has_handshakes s.kind) >>= λ done.
    checked_name s line sort.Words x >>= λ done. checked_indexes s line i j

abbrev pub checked_expr : Source → ℕ → Expr → Checked
checked_expr s line (expr.Term t) = checked_term s line t
checked_expr s line (expr.Sum t u) = checked_term s line t >>= λ done. checked_term s line u
checked_expr s line (expr.Not t) = checked_term s line t

abbrev pub checked_comparison : Source → ℕ → Comparison → Checked
checked_comparison s line k = checked_term s line k.left >>= λ done. checked_term s line k.right

abbrev pub checked_condition : Source → ℕ → Condition → Checked
checked_condition s line (One k) = checked_comparison s line k
checked_condition s line (Two j k l) = checked_comparison s line k >>= λ done. checked_comparison s line l
checked_condition s line (Three j k l m) =
    checked_comparison s line k >>= λ done. checked_comparison s line l >>= λ done. checked_comparison s line m
checked_condition s line (Four j k l m o) =
    checked_comparison s line k >>= λ done.
    checked_comparison s line l >>= λ done. checked_comparison s line m >>= λ done. checked_comparison s line o

abbrev pub checked_where : Source → ℕ → Option Condition → Checked
checked_where s line None = Ok tt
checked_where s line (Some k) = checked_condition s line k

abbrev pub checked_tuple : Source → ℕ → Tuple → Checked
checked_tuple s line (tuple.Seq d q x) =
    checked_kind line (same_kind s.kind kind.Seq) >>= λ done.
    checked_expr s line d >>= λ done. checked_expr s line q >>= λ done. checked_name s line sort.View x
checked_tuple s line (tuple.Bits d h t x) =
    checked_kind line (same_kind s.kind kind.Bits) >>= λ done.
    checked_expr s line d >>= λ done. checked_name s line sort.Row h >>= λ done.
    checked_expr s line t >>= λ done. checked_name s line sort.View x
checked_tuple s line (tuple.Multi d i t) =
    checked_kind line (same_kind s.kind kind.Multi) >>= λ done.
    checked_expr s line d >>= λ done. checked_expr s line i >>= λ done. checked_expr s line t

-- an instruction that reads or writes a register
abbrev pub checked_access : Source → ℕ → Instr → Checked
checked_access s line (Get x i j) = checked_name s line sort.Words x >>= λ done. checked_indexes s line i j
checked_access s line (Bit x b i j) =
    checked_name s line sort.Scalar x >>= λ done.
    checked_kind line (has_bank s.kind (bank_of b)) >>= λ done. checked_indexes s line i j
checked_access s line (Look x i) =
    checked_name s line sort.View x >>= λ done.
    checked_kind line (has_bank s.kind bank.V) >>= λ done. checked_index s line i
checked_access s line (Put i t) = checked_index s line i >>= λ done. checked_tuple s line t
checked_access s line (PutBit b i j e) =
    checked_kind line (has_bank s.kind (bank_of b)) >>= λ done.
    checked_indexes s line i j >>= λ done. checked_expr s line e
checked_access s line (PutView i x) =
    checked_kind line (has_bank s.kind bank.V) >>= λ done.
    checked_index s line i >>= λ done. checked_name s line sort.View x
checked_access s line _ = Ok tt

-- an instruction that sets a local by locals
abbrev pub checked_assignment : Source → ℕ → Instr → Checked
checked_assignment s line (Let x e) = checked_name s line sort.Scalar x >>= λ done. checked_expr s line e
checked_assignment s line (LetPlace x i e) = checked_place s line sort.Row x i >>= λ done. checked_expr s line e
checked_assignment s line (ViewData x y) = checked_name s line sort.View x >>= λ done. checked_name s line sort.Words y
checked_assignment s line (ViewOf x y i) =
    checked_name s line sort.View x >>= λ done.
    checked_kind line (has_view s.kind) >>= λ done. checked_place s line sort.Words y i
checked_assignment s line (Each g x e k) =
    checked_name s line sort.Row x >>= λ done. checked_expr s line e >>= λ done. checked_where s line k
checked_assignment s line _ = Ok tt

abbrev pub checked_instr : Source → ℕ → Instr → Checked
checked_instr s line (Let x e) = checked_assignment s line (Let x e)
checked_instr s line (LetPlace x i e) = checked_assignment s line (LetPlace x i e)
checked_instr s line (Get x i j) = checked_access s line (Get x i j)
checked_instr s line (Bit x b i j) = checked_access s line (Bit x b i j)
checked_instr s line (Look x i) = checked_access s line (Look x i)
checked_instr s line (Put i t) = checked_access s line (Put i t)
checked_instr s line (PutBit b i j e) = checked_access s line (PutBit b i j e)
checked_instr s line (PutView i x) = checked_access s line (PutView i x)
checked_instr s line (ViewData x y) = checked_assignment s line (ViewData x y)
checked_instr s line (ViewOf x y i) = checked_assignment s line (ViewOf x y i)
checked_instr s line (Each g x e k) = checked_assignment s line (Each g x e k)
checked_instr s line (First x g k target) = checked_name s line sort.Scalar x >>= λ done. checked_condition s line k
checked_instr s line (Next x g target) = checked_name s line sort.Scalar x
checked_instr s line (If k target) = checked_condition s line k
checked_instr s line (IfAll g k target) = checked_condition s line k
checked_instr s line (Goto target) = Ok tt
checked_instr s line (Call target) = Ok tt
checked_instr s line (Return x) = checked_name s line sort.View x
checked_instr s line Finish = Ok tt
