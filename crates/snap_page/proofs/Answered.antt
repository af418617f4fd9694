-- What is handed to a page is of what is answered for what it asks and the input, and of a picture that is so.
use Rattle.std.proofs.Common.{◌≡◌, [], ◌∷◌, ℕ, List, Option, Result, Ok, Err, Vec, arith, refl, subst}
use Rattle.std.specs.Prelude.{IfErr, IfOk}
use Rattle.std.specs.Global.{Global}
use Rattle.snap_semantics.specs.Answers.{Answers}
use Rattle.snap_semantics.specs.declared.fault.Fault.{Fault}
use Rattle.snap_semantics.specs.declared.fault.Fault.TheVariants as fault
use Rattle.snap_semantics.specs.declared.event.Event.{Event}
use Rattle.snap_page.specs.Answer.{AnswersBy}
use Rattle.snap_page.specs.Page.{IsHanded, IsHandedOneOf, answer_code, output_or_line}
use Rattle.snap_page.specs.declared.handed.Handed.{Handed}
use Rattle.snap_hunt_output.specs.Hunted.{IsDue, IsHunted}
use Rattle.snap_hunt_output.specs.declared.hunt_request.HuntRequest as hunt
use Rattle.snap_hunt_output.specs.declared.hunted.Hunted.{Hunted}
use Rattle.snap_faults.specs.declared.fault.ProgramFault.{ProgramFault}
use Rattle.snap_page.specs.Hunt.{IsHuntAnswer}
use Rattle.snap_picture.specs.Picture.{AnswersPicture, IsPictureBy}
use Rattle.snap_picture.specs.declared.refusal.PictureRefusal.{PictureRefusal}

-- what is handed over of an answer that is right
one_of : {E : Type 0} (IsRight : Result (List ℕ) E → Type 0) (line_of : E → List ℕ) (before after : List ℕ) (h : Handed)
    (d : Result (List ℕ) E) → IsRight d → IsHanded before after (answer_code d) (output_or_line line_of d) h →
    IsHandedOneOf IsRight (output_or_line line_of) before after h
one_of IsRight line_of before after h d is told = record {
  code = told.code;
  small = told.small;
  answer = λ little. let it = told.answer little in (d, is, it.0, it.1);
  needed = λ large. (d, is, told.needed large);
}

-- What is handed over of whatever was answered is that of an answer that is right. Where there was no memory it is said
-- of all answers, and so of none: texts differ in their lengths, and e has another code than a text.
pub handed_one : {E : Type 0} (IsRight : Result (List ℕ) E → Type 0) (line_of : E → List ℕ) (e : E)
    (before after : List ℕ) (h : Handed) (result : Result (Vec ℕ Global) (Fault E)) → AnswersBy IsRight result →
    ((d : Result (List ℕ) E) → Answers {X = Vec ℕ Global} (λ out. out.items) result d →
    IsHanded before after (answer_code d) (output_or_line line_of d) h) →
    IsHandedOneOf IsRight (output_or_line line_of) before after h
handed_one IsRight line_of e before after h (Ok out) is told =
    one_of IsRight line_of before after h (Ok out.items) is (told (Ok out.items) refl)
handed_one IsRight line_of e before after h (Err (fault.Refused r)) is told =
    one_of IsRight line_of before after h (Err r) is (told (Err r) refl)
handed_one IsRight line_of e before after h (Err fault.Memory) is told =
    let none = told (Ok []) tt in
    let one = told (Ok (0 ∷ [])) tt in
    record {
      code = none.code;
      small = none.small;
      answer = λ little. absurd (omega (arith, (none.answer little).0, ((told (Err e) tt).answer little).0));
      needed = λ large. absurd (omega (arith, none.needed large, one.needed large));
    }

-- a picture that is answered, judged or not, is a right one
pub by_picture : (IsWrong : Option Event → Type 0) (picture : Option Event → Result (List ℕ) PictureRefusal)
    (result : Result (Vec ℕ Global) (Fault PictureRefusal)) → AnswersPicture IsWrong result picture →
    AnswersBy (IsPictureBy IsWrong picture) result
by_picture IsWrong picture (Ok out) given = given
by_picture IsWrong picture (Err (fault.Refused r)) given = given
by_picture IsWrong picture (Err fault.Memory) given = tt

-- What a hunt comes to, or a fault of it, is an answer of it.
pub hunted : (listing : List ℕ) (a b : hunt.HuntRequest) (result : Result Hunted ProgramFault) → a ≡ b →
    IfOk result (IsHunted listing a) → IfErr result (IsDue listing a) → IsHuntAnswer listing b result
hunted listing a b (Ok h) same is due = subst (λ (x : hunt.HuntRequest). IsHunted listing x h) same is
hunted listing a b (Err why) same is due = subst (λ (x : hunt.HuntRequest). IsDue listing x why) same due
