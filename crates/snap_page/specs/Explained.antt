-- What a page in a browser is told of a refused input behind the line of its refusal (`explained`): the place, what was
-- expected and found there, and advice.
use Rattle.std.specs.Prelude.{ℕ, List, [], Result, Ok, Err}
use Rattle.snap_semantics.specs.declared.refusal.Refusal.{Refusal}
use Rattle.snap_tasks.specs.declared.request.Request.TheVariants as request
use Rattle.snap_explanation.specs.Explanation.{explanation}
use Rattle.snap_explanation.specs.Part.{layout_of}
use Rattle.snap_explanation.specs.declared.layout.Layout.{Layout}
use Rattle.snap_page.specs.Answer.{judge_request}
use Rattle.snap_page.specs.declared.page_request.PageRequest.{PageRequest}
use Rattle.snap_page.specs.declared.page_request.PageRequest.TheVariants.{Do, Judge}

-- what the input consists of for what a page asks
abbrev pub layout_for : PageRequest → Layout
layout_for (Do t) = layout_of (request.Do t)
layout_for (Judge s) = layout_of (request.Judge (judge_request s))

-- what is said of a refused input behind the line that refuses it; of an input that is answered nothing is
abbrev pub explained : PageRequest → List ℕ → Result (List ℕ) Refusal → List ℕ
explained a input (Ok text) = []
explained a input (Err r) = explanation (layout_for a) input r
