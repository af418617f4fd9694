-- What an option of a command line gives, by the text that was found for it: a number (`IsNumber`), whether a flag was
-- given (`IsFlag`), or a kind of registers (`kind_given`).
use Rattle.std.specs.Prelude.{◌≡◌, ℕ, ◌<◌, ◌^◌, Bool, true, false, List, Option, Some, None, codes, option_map}
use Rattle.std.specs.Option.{SomeIff}
use Rattle.std.specs.Str.Parse.{IsNumeral, digits_value, without_leading_plus}
use Rattle.snap_words.specs.declared.kind.KindTag.{KindTag}
use Rattle.snap_tasks.specs.Request.{kind_of}

-- a text is this number exactly where it is a numeral of a number of 64 bits; where there is no text, there is none
abbrev pub IsNumber : Option (List ℕ) → Option ℕ → Type 0
IsNumber None given = given ≡ None
IsNumber (Some t) given =
    SomeIff given (IsNumeral 10 (without_leading_plus t) × (digits_value 10 (without_leading_plus t) < 2 ^ 64))
    (digits_value 10 (without_leading_plus t))

-- a flag has the text `true` where it was given, and `false` or none where not
abbrev pub IsFlag : Option (List ℕ) → Bool → Type 0
IsFlag None given = given ≡ false
IsFlag (Some t) given = (t ≡ codes "true" → given ≡ true) × (t ≡ codes "false" → given ≡ false)

-- the kind of this name, where there is one; and none, where no name is given
abbrev pub kind_given : Option (List ℕ) → Option (Option KindTag)
kind_given None = Some None
kind_given (Some name) = option_map (λ kind. Some kind) (kind_of name)
