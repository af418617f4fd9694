-- The handshake bits of words of any kind: one by one, and two lists of them compared.
use Rattle.std.proofs.Common.{◌≡◌, ℕ, ◌+◌, ◌-◌, ◌<◌, ◌≤◌, Bool, true, false, ◌&&◌, List, bytes_eq, drop, length}
use Rattle.std.proofs.Common.{nat_eq, nat_lt, refl, ap, arith, get_or, add-one, leb-true}
use Rattle.std.proofs.Math.Seq.{drop-cons}
use Rattle.std.proofs.lemmas.Bool.{false_from_ne_true, lt-ltb}
use Rattle.std.proofs.lemmas.List.Elements.{All-get_or}
use Rattle.std.proofs.lemmas.List.Sums.{AllPass-from_list_all}
use Rattle.std.proofs.lemmas.Option.{unwrap_or-slice_get}
use Rattle.std.proofs.lemmas.Slice.Eq.{bytes_eq-Decides}
use Rattle.std.specs.List.{list_all, slice_get}
use Rattle.std.specs.Prelude.{Option, None, if◌then◌else◌, unwrap_or}
use Rattle.snap_words.specs.Kind.{handshake_in, has_handshakes, is_bit}
use Rattle.snap_words.specs.Word.{Word}
use Rattle.snap_words.specs.declared.kind.KindTag.{KindTag}

handshake_by : (has : Bool) (handshakes : List ℕ) (i place : ℕ) → (has ≡ false → ⊥) → nat_lt 0 i ≡ true → i - 1
    ≡ place → unwrap_or (let o : Option ℕ = if has && nat_lt 0 i then slice_get handshakes (i - 1) else None in o) 0
    ≡ get_or handshakes place 0
handshake_by false handshakes i place some positive same = absurd (some refl)
handshake_by true handshakes i place some positive same = rw (positive, same) (unwrap_or-slice_get handshakes place 0)

-- handshake bit i of a word stands at place i - 1
pub handshake_at_place : (k : KindTag) (w : Word) (place : ℕ) → (has_handshakes k ≡ false → ⊥) →
    unwrap_or (handshake_in k (place + 1) w) 0 ≡ get_or w.handshakes place 0
handshake_at_place k w place some =
    handshake_by (has_handshakes k) w.handshakes (place + 1) place some
    (lt-ltb 0 (place + 1) (omega arith)) (omega arith)

-- one of a list of bits
pub is_bit_at : (bits : List ℕ) (i : ℕ) → list_all is_bit bits ≡ true → i < length bits → get_or bits i 0 ≤ 1
is_bit_at bits i e h =
    leb-true (get_or bits i 0) 1
    (All-get_or (λ (x : ℕ). is_bit x ≡ true) bits i 0 h (AllPass-from_list_all is_bit bits e))

-- lists are compared place by place
pub bytes_eq-drop : (xs ys : List ℕ) (i : ℕ) → i < length xs → i < length ys → bytes_eq (drop i xs) (drop i ys)
    ≡ (nat_eq (get_or xs i 0) (get_or ys i 0) && bytes_eq (drop (i + 1) xs) (drop (i + 1) ys))
bytes_eq-drop xs ys i h k = rw (add-one, drop-cons xs i 0 h, drop-cons ys i 0 k) refl

-- lists of other lengths differ
pub bytes_eq-lengths : (xs ys : List ℕ) → (length xs ≡ length ys → ⊥) → bytes_eq xs ys ≡ false
bytes_eq-lengths xs ys differ =
    false_from_ne_true (bytes_eq xs ys) (λ e. differ (ap (λ (zs : List ℕ). length zs) ((bytes_eq-Decides xs ys).0 e)))
