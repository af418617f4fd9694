-- `push_numbered_line` adds the tokens of a line of a listing,
-- laid out, and then the end of the line with its comment.
use Rattle.std.proofs.Common.{rules, ◌≡◌, List, ◌++◌, [], ap, ◌∙◌}
use Rattle.snap_semantics.specs.CanonicalText.{comment_end}
use Rattle.snap_semantics.specs.Layout.{line_to}
use Rattle.snap_semantics.specs.Spelling.{spelled_line}
use Rattle.snap_semantics.specs.Token.{Token}
use Rattle.snap_listing_core.specs.Fields.{seen_comment}
use Rattle.snap_text.proofs.Ends.{line_pushed}
use Rattle.snap_text.specs.Tokens.{view_tokens}
use Rattle.snap_listing.proofs.printer.push_numbered_line.Goals as goal

pub returns : goal.returns
returns c =
    let tokens : view_tokens c.in_ok-tokens.tokens.now ≡ spelled_line c.args.numbered.now = search rules in
    line_pushed c.push_comment_end.result
    (comment_end (seen_comment c.args.comment.now)) c.args.out.now.items c.push_tokens.new.out.items
    c.push_comment_end.new.out.items (spelled_line c.args.numbered.now)
    (c.in_ok-push_tokens.ensures ∙ ap (λ (ts : List Token). c.args.out.now.items ++ line_to [] ts) tokens)
    c.push_comment_end.ensures
