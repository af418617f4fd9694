-- What an item changed is told by the lines that it can change (`touched_text`): what it overwrote, put back after it,
-- gives all lines that were before it.
use Rattle.std.proofs.Common.{◌≡◌, ℕ, ◌+◌, ◌-◌, ◌<◌, List, [], ◌++◌, length, refl, sym, ap}
use Rattle.std.proofs.Common.{◌∙◌, subst, append_assoc, length-set}
use Rattle.std.proofs.lemmas.List.{get_or-set_same}
use Rattle.snap_words.specs.Shape.{Counts}
use Rattle.snap_words.specs.declared.kind.KindTag.{KindTag}
use Rattle.snap_semantics.specs.declared.event.Event.{Event}
use Rattle.snap_semantics.specs.declared.instr.BitBank.TheVariants as bits
use Rattle.snap_semantics.specs.declared.process.Item.{Item}
use Rattle.snap_semantics.specs.IsListing.{IsListing}
use Rattle.snap_semantics.specs.Report.{head_line, locals_text, process_lines, values_line}
use Rattle.snap_semantics.specs.Source.{Source}
use Rattle.snap_semantics.specs.State.{Locals, Memory, Process, State, nobody, process_at, values}
use Rattle.snap_semantics.specs.Table.{done, who}
use Rattle.snap_semantics.specs.Token.{lines_of}
use Rattle.snap_text.specs.Changes.{text_between}
use Rattle.snap_machine.specs.WritePlace.{write_place_of}
use Rattle.snap_machine.specs.declared.undo.WritePlace.{WritePlace}
use Rattle.snap_machine.specs.Undo.{CanPut, FitsPlace, Overwritten, Place, WordRegister, BitRegister, put, put_local}
use Rattle.snap_machine.specs.Undo.{put_register}
use Rattle.snap_machine.specs.Configuration.{HasLocals}
use Rattle.snap_report.specs.WrittenLines.{written_local, written_shared}
use Rattle.snap_output.specs.Between.{between, process_text}
use Rattle.snap_output.specs.Touched.{came_text, changed_line, changed_local, touched_text}
use Rattle.snap_output.proofs.Wholes.{IsWhole, feeds}
use Rattle.snap_output.proofs.Feeds.{values_feeds}
use Rattle.snap_output.proofs.Kept.{IsMove, moves, process_behind}
use Rattle.snap_output.proofs.Parts.{IsPart, around, between_apart, between_same, events_part, in_three, no_part}
use Rattle.snap_output.proofs.Parts.{process_part, registers_part, shared, shared_feeds, shared_whole, values_whole}
use Rattle.snap_output.proofs.Indented.{IsIndented, process_narrowed}
use Rattle.snap_output.proofs.Named.{IsSorted, sorted, sorted_before}
use Rattle.snap_output.proofs.Differs.{Differs}
use Rattle.snap_output.proofs.Locals.{local_differs}
use Rattle.snap_output.proofs.Registers.{register_differs}
use Rattle.snap_output.proofs.Own.{events_change, head_change, local_line, locals_change, written_own}

-- the registers without the values, which stay
without_values : {v r r' m m' : List ℕ} → IsWhole v → Differs IsPart r r' m m' → IsPart r → IsPart r' →
    between (v ++ r) (v ++ r') ≡ between m m'
without_values {v} hv h hr hr' = rw (between_apart hv hv hr hr' refl, between_same v) (around h)

-- the values and the registers, where a place was put back
shared_change : (g : KindTag) (s : Source) (n : Counts) (m : Memory) (ps ps' : List Process) (u : Place) →
    FitsPlace s n u → let S : State = record { memory = put_register u m; processes = ps } in
    let S' : State = record { memory = m; processes = ps' } in
    between (shared g S) (shared g S')
    ≡ between (written_shared g S (write_place_of u)) (written_shared g S' (write_place_of u))
shared_change g s n m ps ps' (WordRegister k x) h =
    let S : State = record { memory = put_register (WordRegister k x) m; processes = ps } in
    let S' : State = record { memory = m; processes = ps' } in
    let d = register_differs g s n m (WordRegister k x) h in
    let whole = values_whole (values S) in
    let whole' = values_whole (values S') in
    let same = values_feeds (values S) ∙ sym (values_feeds (values S')) in
    between_apart whole whole' (registers_part g S.memory) (registers_part g m) same
    ∙ ap (λ t. between (values_line (values S)) (values_line (values S')) ++ t) (around d)
    ∙ sym (between_apart whole whole' d.alike.mine d.alike.mine' same)
shared_change g s n m ps ps' (BitRegister bits.Q i j x) h =
    let u = BitRegister bits.Q i j x in
    without_values (values_whole _) (register_differs g s n m u h) (registers_part g (put_register u m))
    (registers_part g m)
shared_change g s n m ps ps' (BitRegister bits.P i j x) h =
    let u = BitRegister bits.P i j x in
    without_values (values_whole _) (register_differs g s n m u h) (registers_part g (put_register u m))
    (registers_part g m)
shared_change g s n m ps ps' u h =
    without_values (values_whole _) (register_differs g s n m u h) (registers_part g (put_register u m))
    (registers_part g m)

-- what an item changed, told by what it overwrote
pub touched : (s : Source) (n : Counts) (S : State) (x : Item) (u : Overwritten) (new : List Event) → IsListing s →
    who x - 1 < length S.processes → HasLocals s (process_at S (who x)).locals → u.process ≡ who x → CanPut s n u →
    put s u (done s n S x).0 ≡ S →
    between (process_text s.kind (who x) S []) (process_text s.kind (who x) (done s n S x).0 new)
    ≡ touched_text s.kind (who x) (write_place_of u.place) S (done s n S x).0 new
touched s n S x u new rules there locals is fits back =
    rw (
      in_three (shared_whole s.kind S) (shared_whole s.kind S') (process_part s.kind i p) (process_part s.kind i p')
          no_part (events_part new) (shared_feeds s.kind i S S' move) count,
      of_registers,
      of_its_process,
      events_change new,
    )
    (regroup (text_between (lines_of (written_shared s.kind S w)) (lines_of (written_shared s.kind S' w)))
    (changed_line (head_line i p.status) (head_line i p'.status)) (changed_local i l l') (came_text new))
  where
    i : ℕ
    i = who x

    S' : State
    S' = (done s n S x).0

    w : WritePlace
    w = write_place_of u.place

    p : Process
    p = process_at S i

    p' : Process
    p' = process_at S' i

    l : List ℕ
    l = written_local s.kind p.locals w

    l' : List ℕ
    l' = written_local s.kind p'.locals w

    move : IsMove s.kind i S S'
    move = moves s.kind s n S x

    within : i - 1 < length S'.processes
    within = rw (move.processes, length-set) there

    locals_are : p.locals ≡ put_local s u.place p'.locals
    locals_are =
        ap (λ (T : State). (process_at T i).locals) (sym back)
        ∙ ap (λ (j : ℕ). (process_at (put s (record u { process = j }) S') i).locals) is
        ∙ ap (λ (q : Process). q.locals) (get_or-set_same S'.processes (i - 1)
        (record { status = u.status; locals = put_local s u.place p'.locals }) nobody within)

    of_registers : between (shared s.kind S) (shared s.kind S')
        ≡ text_between (lines_of (written_shared s.kind S w)) (lines_of (written_shared s.kind S' w))
    of_registers =
        subst (λ (m : Memory). let T : State = record { memory = m; processes = S.processes } in
        between (shared s.kind T) (shared s.kind S')
        ≡ between (written_shared s.kind T w) (written_shared s.kind S' w))
        (ap (λ (T : State). T.memory) back)
        (shared_change s.kind s n S'.memory S.processes S'.processes u.place fits.1)
        ∙ (rw ((written_own s.kind S w).own [], (written_own s.kind S' w).own []) refl)

    stands : IsSorted s p.locals
    stands = sorted s p.locals rules locals

    stands' : IsSorted s p'.locals
    stands' = sorted_before s u.place p'.locals (subst (IsSorted s) locals_are stands)

    mine : Differs IsIndented (locals_text s.kind p.locals) (locals_text s.kind p'.locals) l l'
    mine =
        subst (λ (k : Locals). Differs IsIndented
        (locals_text s.kind k) (locals_text s.kind p'.locals) (written_local s.kind k w) l')
        (sym locals_are) (local_differs s.kind s p'.locals stands' u.place)

    count : feeds (process_lines s.kind i p) ≡ feeds (process_lines s.kind i p')
    count = sym (ap (λ (q : Process). feeds (process_lines s.kind i q)) (process_behind move there) ∙ move.lines)

    of_its_process : between (process_lines s.kind i p) (process_lines s.kind i p')
        ≡ changed_line (head_line i p.status) (head_line i p'.status) ++ changed_local i l l'
    of_its_process =
        rw (
          mine.old_is,
          mine.new_is,
          process_narrowed i p.status p'.status mine.front l l' mine.rest mine.front_is
              mine.alike.mine mine.alike.mine' mine.alike.same,
          head_change i p.status p'.status,
          locals_change i (local_line s.kind s p.locals u.place stands) (local_line s.kind s p'.locals u.place stands')
              mine.alike.same,
        ) refl

    regroup : (a b c d : List ℕ) → a ++ ((b ++ c) ++ d) ≡ ((a ++ b) ++ c) ++ d
    regroup a b c d = simp append_assoc
