-- `page_picture` of snap_page (src/lib.rt): the proof of what its contract says.
use Rattle.snap_picture.specs.declared.refusal.PictureRefusal.TheVariants.{NoSuchItems}
use Rattle.snap_page.specs.Picture.{picture_refusal_line}
use Rattle.snap_page.proofs.Answered.{by_picture, handed_one}
use Rattle.snap_page.proofs.page_picture.Goals as goal

-- the picture that was handed
pub returns : goal.returns
returns c =
    handed_one _ picture_refusal_line (NoSuchItems 0) _ _ _ c.drawn-answer.result
    (by_picture _ _ c.drawn-answer.result c.drawn-answer.ensures) c.handed_picture.ensures
