-- `Prompt::push_question` of snap_prompt (src/prompt.rt): the proof of what its contract says.
use Rattle.std.proofs.Common.{◌≡◌, ◌-◌, ℕ, append_assoc, length, ap, refl}
use Rattle.snap_debug.specs.Session.{Session, total}
use Rattle.snap_prompt.specs.Prompt.{Prompt}
use Rattle.snap_prompt.proofs.prompt.Prompt.push_question.Goals as goal

-- the items behind the position
items_left : (s t : Session) (n m : ℕ) → s ≡ t → n ≡ length s.run.items → m ≡ s.position → n - m ≡ total t - t.position
items_left s t n m e f h = rw (f, h, e) refl

pub returns : goal.returns
returns g c = λ well.
    let s = c.args.self.now.session in
    let left : c.total.result - c.position.result ≡ total s - s.position =
    items_left c.self.inside.session s c.total.result c.position.result
    (ap (λ (p : Prompt). p.session) c.self.view_is) c.total.ensures c.position.ensures.position in
    let e3 = c.push-2.ensures well in
    let e2 = c.push_number.ensures e3.0 in
    let e1 = c.push.ensures e2.0 in
    (e1.0, rw (e3.1, e2.1, e1.1, left) (simp append_assoc))
