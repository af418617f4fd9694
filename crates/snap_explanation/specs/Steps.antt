-- The steps, tokens and places of the code that finds where a line is lost, viewed as those of its definitions.
use Rattle.std.specs.Prelude.{List, ◌++◌, map}
use Rattle.snap_semantics.specs.Token.{Token}
use Rattle.snap_text.specs.Tokens.{view_token}
use Rattle.snap_explanation.specs.Grammar.{TokenStep, Takes, Passes, Refuses}
use Rattle.snap_explanation.specs.Lost.{Place, Wanted}
use Rattle.snap_explanation.specs.Pieces.{PlacedToken, PlacedTokens}
use Rattle.snap_explanation.specs.declared.forms.TokenStep as code
use Rattle.snap_explanation.specs.declared.forms.TokenStep.TheVariants as made
use Rattle.snap_explanation.specs.declared.lost.LostPlace.{LostPlace}
use Rattle.snap_explanation.specs.declared.lost.Wanted as wanted
use Rattle.snap_explanation.specs.declared.pieces.PlacedToken as token
use Rattle.snap_explanation.specs.declared.pieces.PlacedTokens as tokens

abbrev pub view_step : code.TokenStep → TokenStep
view_step (made.Takes next more) = Takes (next.now ++ more.now)
view_step made.Passes = Passes
view_step made.Refuses = Refuses

abbrev pub view_placed_token : token.PlacedToken → PlacedToken
view_placed_token t = record { column = t.column; token = view_token t.token }

abbrev pub view_placed : tokens.PlacedTokens → PlacedTokens
view_placed p = record { tokens = map view_placed_token p.tokens.items; stray = p.stray }

-- tokens without their columns
abbrev pub placed_tokens : List token.PlacedToken → List Token
placed_tokens ts = map (λ (t : token.PlacedToken). view_token t.token) ts

abbrev pub view_wanted : wanted.Wanted → Wanted
view_wanted w = record { parts = w.parts.items; places = w.places }

abbrev pub view_lost : LostPlace → Place
view_lost p = record { before = p.before; wanted = view_wanted p.wanted }
