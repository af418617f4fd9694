-- What computes the reader of a text on a literal: a worked sample names these in place of each rule that is followed.
use Rattle.std.specs.Prelude.{⊤}
use Rattle.snap_semantics.specs.HeaderForms as headers
use Rattle.snap_semantics.specs.Listing.{listing_of, listing_of_lines, header_of}
use Rattle.snap_semantics.specs.ListingForms as forms
use Rattle.snap_semantics.specs.ScheduleForms as schedules

-- the reader of listings
unfoldable pub listings_on_literals : ⊤
unfolding listing_of listing_of_lines header_of forms.name_at forms.number_index forms.place_index
    forms.identifier_index forms.index_at forms.place_at forms.named_place_at forms.arg_term forms.row_term
    forms.field_term forms.handshake_term forms.index_term forms.term_at forms.not_expr forms.plus_expr forms.term_expr
    forms.expr_at forms.relation_at forms.comparison_at forms.joined_at forms.third_on forms.second_on forms.first_on
    forms.condition_at forms.range_at forms.target_at forms.let_form forms.let_place_form forms.get_form forms.pair_at
    forms.bit_bank_at forms.bit_form forms.look_form forms.seq_tuple_at forms.bits_tuple_at forms.multi_tuple_at
    forms.triple_at forms.tuple_at forms.put_form forms.put_bit_form forms.put_view_form forms.view_data_form
    forms.view_of_form forms.where_at forms.each_form forms.first_form forms.next_form forms.if_form forms.if_all_form
    forms.goto_form forms.call_form forms.return_form forms.finish_form forms.form_of_keyword forms.line_form
    headers.kind_form headers.names_form headers.entry_form
listings_on_literals = tt

-- the reader of schedules
unfoldable pub schedules_on_literals : ⊤
unfolding schedules.shape_form schedules.step_form schedules.steps_form schedules.scan_form schedules.update_form
    schedules.crash_form schedules.item_form
schedules_on_literals = tt
