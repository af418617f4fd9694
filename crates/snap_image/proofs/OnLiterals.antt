-- What computes the decoder of images on a literal: a worked sample names it in place of each rule that is followed.
use Rattle.std.specs.Prelude.{⊤}
use Rattle.snap_image.specs.ImageForms as reading
use Rattle.snap_image.specs.ImageListing as images

-- the decoder of images, beside `instrs_on_literals`
unfoldable pub images_on_literals : ⊤
unfolding reading.short_in reading.long_in reading.code_in reading.slot_in reading.number_index reading.scalar_index
    reading.index_in reading.row_term reading.field_term reading.handshake_term reading.index_term reading.term_in
    reading.plain_expr reading.sum_expr reading.not_expr reading.expr_in reading.comparison_in reading.two_in
    reading.three_in reading.four_in reading.one_in reading.count_in reading.condition_in reading.flag_in
    reading.where_of_flag reading.where_in images.version_in images.letters_in images.length_in images.name_in
    images.names_in images.table_in images.line_count_in images.head_in images.comment_byte_in images.comment_bytes_in
    images.some_comment_in images.comment_in images.line_in images.lines_in images.commented_in images.listing_of_image
images_on_literals = tt
