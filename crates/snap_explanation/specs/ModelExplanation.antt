-- `model_explanation`: what is said of a listing and scripts of which there is no model.
use Rattle.std.specs.Prelude.{ℕ, List}
use Rattle.snap_semantics.specs.declared.refusal.ModelRefusal.{ModelRefusal}
use Rattle.snap_semantics.specs.declared.refusal.ModelRefusal.TheVariants as model
use Rattle.snap_explanation.specs.declared.wording.TheConstants.{LARGE_MODEL, MODEL_NUMBERS}

abbrev pub model_explanation : ModelRefusal → List ℕ
model_explanation model.TooLarge = LARGE_MODEL.now
model_explanation (model.BadNumber x) = MODEL_NUMBERS.now
