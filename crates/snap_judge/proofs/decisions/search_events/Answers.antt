-- `search_events` of snap_judge (src/decisions.rt).
use Rattle.std.proofs.Common.{List, take, ap, refl, ◌∙◌}
use Rattle.snap_semantics.specs.declared.event.Event.{Event}
use Rattle.snap_judge.specs.History.{History}
use Rattle.snap_judge.specs.Linearizable.{up_to}
use Rattle.snap_judge.specs.Steps.{steps_of}
use Rattle.snap_judge.proofs.KeptSteps.{history_up_to, numbered, steps_of_history}
use Rattle.snap_judge.proofs.Judging.{same_found, same_numbered, same_steps}
use Rattle.snap_judge.proofs.decisions.search_events.Goals as goal

pub search-requires-clause-steps : goal.search-requires-clause-steps
search-requires-clause-steps c =
    let h = c.args.history.now in
    same_steps h.shape.n _ h.shape.w _ c.in_ok-steps.steps.items _
    (c.n-processes.ensures ∙ ap (λ (x : History). x.shape.n) c.history.view_is)
    (c.w-words.ensures ∙ ap (λ (x : History). x.shape.w) c.history.view_is) c.deref-2.ensures.value
    (steps_of_history (up_to c.args.count h) c.in_ok-steps.steps.items
    (history_up_to h c.args.count c.requires.history)
    (c.in_ok-steps.ensures ∙ ap (λ (es : List Event). steps_of (take c.args.count es))
    (c.deref.ensures.value ∙ ap (λ (x : History). x.events) c.history.view_is)))

pub search-requires-clause-numbered : goal.search-requires-clause-numbered
search-requires-clause-numbered c =
    let h = c.args.history.now in
    same_numbered c.in_ok-steps.steps.items _ c.deref-2.ensures.value
    (numbered (up_to c.args.count h) c.in_ok-steps.steps.items (history_up_to h c.args.count c.requires.history)
    (c.in_ok-steps.ensures ∙ ap (λ (es : List Event). steps_of (take c.args.count es))
    (c.deref.ensures.value ∙ ap (λ (x : History). x.events) c.history.view_is)))

pub returns : goal.returns
returns c =
    let h = c.args.history.now in
    let found = c.in_ok-found.found in
    record {
      steps =
          c.in_ok-steps.ensures
          ∙ ap (λ (es : List Event). steps_of (take c.args.count es))
          (c.deref.ensures.value ∙ ap (λ (x : History). x.events) c.history.view_is);
      found =
          same_found c.args.most h.shape.n _ h.shape.w _ c.in_ok-steps.steps.items _ found found
          (c.n-processes.ensures ∙ ap (λ (x : History). x.shape.n) c.history.view_is)
          (c.w-words.ensures ∙ ap (λ (x : History). x.shape.w) c.history.view_is) c.deref-2.ensures.value refl
          c.in_ok-found.ensures;
    }
