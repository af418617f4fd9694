-- When there is a model of scripts, and what `model_text` answers.
use Rattle.std.specs.Prelude.{◌≡◌, ℕ, Vec, Bool, true, false, ◌&&◌, ⊤, length, nat_le, nat_lt, Result, Ok, Err}
use Rattle.std.specs.Global.{Global}
use Rattle.std.specs.List.{list_all}
use Rattle.snap_words.specs.Shape.{Counts}
use Rattle.snap_semantics.specs.declared.fault.Fault.{Fault}
use Rattle.snap_semantics.specs.declared.fault.Fault.TheVariants.{Memory, Refused}
use Rattle.snap_sched.specs.ScriptText.{Script, Scripts}
use Rattle.snap_semantics.specs.declared.refusal.ModelRefusal.{ModelRefusal}
use Rattle.snap_semantics.specs.declared.refusal.ModelRefusal.TheVariants.{TooLarge, BadNumber}

-- a script of at most 32 operations
abbrev pub is_short : Script → Bool
is_short s = nat_le (length s.operations) 32

-- at most 8 processes and words
abbrev pub has_room : Counts → Bool
has_room c = nat_le c.n 8 && nat_le c.w 8

-- few enough processes and words, with short scripts
abbrev pub is_small : Scripts → Bool
is_small s = has_room s.shape && list_all is_short s.scripts

-- a number that has 32 bits neither itself nor as what it lacks to 2^64
abbrev pub is_beyond : ℕ → Bool
is_beyond x = nat_le 2147483648 x && nat_le x 18446744071562067967

-- A model; or scripts that are not small; or a number that no model holds.
abbrev pub AnswersModel : Scripts → Result (Vec ℕ Global) (Fault ModelRefusal) → Type 0
AnswersModel s (Ok text) = is_small s ≡ true
AnswersModel s (Err Memory) = ⊤
AnswersModel s (Err (Refused TooLarge)) = is_small s ≡ false
AnswersModel s (Err (Refused (BadNumber x))) = (is_small s ≡ true) × (is_beyond x ≡ true)
