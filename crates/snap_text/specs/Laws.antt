-- The laws of the layout of tokens: what is laid out in lines, with
-- comments or without, is read as the same tokens and comments.
use Rattle.std.specs.Prelude.{◌≡◌, List, length, true}
use Rattle.std.specs.List.{AllByRecursion}
use Rattle.snap_semantics.specs.CanonicalText.{commented_text}
use Rattle.snap_semantics.specs.Comments.{Comment, IsComment, line_comments}
use Rattle.snap_semantics.specs.Layout.{lines_text}
use Rattle.snap_semantics.specs.Token.{Token, lines_of, text_lines}
use Rattle.snap_text.specs.Lines.{line_tokens, found_lines}
use Rattle.snap_text.specs.Tokens.{IsSound, is_some_token}

-- a line that can stand in a text: it has a token, and each of its tokens can stand there
abbrev pub IsSoundLine : List Token → Type 0
IsSoundLine ts = (is_some_token ts ≡ true) × AllByRecursion IsSound ts

-- what is laid out in lines is read as these tokens, line by line
abbrev pub ReadsLaidOut : Type 0
ReadsLaidOut =
    (lines : List (List Token)) → AllByRecursion IsSoundLine lines →
    line_tokens (text_lines (lines_text lines)) ≡ found_lines lines

-- what is laid out in lines with comments is read as these tokens, line by line, and with these comments
abbrev pub ReadsCommented : Type 0
ReadsCommented =
    (cs : List Comment) (lines : List (List Token)) → length cs ≡ length lines → AllByRecursion IsComment cs →
    AllByRecursion IsSoundLine lines → (line_tokens (text_lines (commented_text cs lines)) ≡ found_lines lines)
    × (line_comments (lines_of (commented_text cs lines)) ≡ cs)
