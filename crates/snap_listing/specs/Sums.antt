-- Rules for a sum in a line of a listing, `+` and a term, which
-- the code has and the grammar of listings does not name.
use Rattle.std.specs.Prelude.{Bool, List, Some}
use Rattle.snap_semantics.specs.declared.instr.Expr.{Expr}
use Rattle.snap_semantics.specs.declared.instr.Expr.TheVariants as expr
use Rattle.snap_semantics.specs.declared.instr.Term.{Term}
use Rattle.snap_semantics.specs.declared.text.Symbol.TheVariants as symbol
use Rattle.snap_semantics.specs.Rules.{◌>>=◌, or_else, Found, symbol_at}
use Rattle.snap_semantics.specs.ListingForms.{plus_expr, term_at}
use Rattle.snap_semantics.specs.Token.{Token}

-- `+` and a term
abbrev pub plus_term : Bool → List Token → Found Term
plus_term q ts = symbol_at symbol.Plus ts >>= λ rest. term_at q rest

-- the sum that begins with this term, or the term alone
abbrev pub sum_on : Bool → Term → List Token → Found Expr
sum_on q t ts = or_else (plus_expr q t ts) (Some (expr.Term t, ts))
