-- Rules for a symbol with an expression, a name or an index after it, and
-- for `[@]`, which the code has and the grammar of listings does not name.
use Rattle.std.specs.Prelude.{Bool, false, List, Option}
use Rattle.snap_semantics.specs.declared.instr.Expr.{Expr}
use Rattle.snap_semantics.specs.declared.instr.Index.{Index}
use Rattle.snap_semantics.specs.declared.text.Symbol.{Symbol}
use Rattle.snap_semantics.specs.declared.text.Symbol.TheVariants as symbol
use Rattle.snap_semantics.specs.Rules.{◌>>=◌, Found, symbol_at}
use Rattle.snap_semantics.specs.ListingForms.{expr_at, index_at, name_at}
use Rattle.snap_semantics.specs.Source.{Name}
use Rattle.snap_semantics.specs.Token.{Token}

-- a symbol and an expression
abbrev pub expr_behind : Symbol → Bool → List Token → Found Expr
expr_behind m q ts = symbol_at m ts >>= λ rest. expr_at q rest

-- a symbol and a name
abbrev pub name_behind : Symbol → List Token → Found Name
name_behind m ts = symbol_at m ts >>= λ rest. name_at rest

-- a symbol and an index
abbrev pub index_behind : Symbol → List Token → Found Index
index_behind m ts = symbol_at m ts >>= λ rest. index_at false rest

-- `[@]`
abbrev pub every_place : List Token → Option (List Token)
every_place ts = symbol_at symbol.OpenBracket ts >>= λ a. symbol_at symbol.At a >>= λ b. symbol_at symbol.CloseBracket b
