-- Bytes from a page that are not UTF-8 ask for nothing and name no shipped listing.
use Rattle.std.proofs.Common.{◌≡◌, ℕ, Bool, true, false, List, [], ◌∷◌, None, refl, ap, subst, sym}
use Rattle.std.specs.Prelude.{IsUtf8, bytes_eq, codes, option_map}
use Rattle.std.proofs.lemmas.Slice.Eq.{bytes_eq-Decides}
use Rattle.std.proofs.lemmas.Str.{IsUtf8-nil}
use Rattle.snap_tasks.specs.Request.{kind_of, request_of}
use Rattle.snap_tasks.specs.declared.request.Options.{Options}
use Rattle.snap_tasks.specs.declared.subject.Subject.{Subject}
use Rattle.snap_tasks.specs.declared.subject.Subject.TheVariants.{Shipped}
use Rattle.snap_page.specs.Page.{asked_for, asked_in, options_for, subject_of}

not_true : (b : Bool) → ¬ (b ≡ true) → b ≡ false
not_true true not_text = absurd (not_text refl)
not_true false not_text = refl

-- bytes that are no text differ from each text
unlike : (bytes name : List ℕ) → ¬ (IsUtf8 bytes) → IsUtf8 name → bytes_eq bytes name ≡ false
unlike bytes name not_text is =
    not_true (bytes_eq bytes name) (λ e. not_text (subst IsUtf8 (sym ((bytes_eq-Decides bytes name).0 e)) is))

module _ (bytes : List ℕ) (not_text : ¬ (IsUtf8 bytes)) where
  no_kind : kind_of bytes ≡ None
  unfolding lib.Utf8.encode
  no_kind = rw (
    unlike bytes (codes "seq") not_text (codes "seq", (refl, refl)),
    unlike bytes (codes "bit") not_text (codes "bit", (refl, refl)),
    unlike bytes (codes "multi") not_text (codes "multi", (refl, refl)),
  ) refl

  no_request : (o : Options) → request_of bytes o ≡ None
  unfolding lib.Utf8.encode
  no_request o = rw (
    unlike bytes (codes "check") not_text (codes "check", (refl, refl)),
    unlike bytes (codes "lint") not_text (codes "lint", (refl, refl)),
    unlike bytes (codes "assemble") not_text (codes "assemble", (refl, refl)),
    unlike bytes (codes "list") not_text (codes "list", (refl, refl)),
    unlike bytes (codes "upgrade") not_text (codes "upgrade", (refl, refl)),
    unlike bytes (codes "run") not_text (codes "run", (refl, refl)),
    unlike bytes (codes "trace") not_text (codes "trace", (refl, refl)),
    unlike bytes (codes "debug") not_text (codes "debug", (refl, refl)),
    unlike bytes (codes "audit") not_text (codes "audit", (refl, refl)),
    unlike bytes (codes "certify") not_text (codes "certify", (refl, refl)),
    unlike bytes (codes "batch") not_text (codes "batch", (refl, refl)),
    unlike bytes (codes "survey") not_text (codes "survey", (refl, refl)),
    unlike bytes (codes "live") not_text (codes "live", (refl, refl)),
    unlike bytes (codes "judge") not_text (codes "judge", (refl, refl)),
    unlike bytes (codes "promela") not_text (codes "promela", (refl, refl)),
  ) refl

  pub no_task : (s : Subject) → asked_for bytes s ≡ None
  no_task s = ap (asked_in s) (no_request (options_for s))

-- no bytes are a text
pub no_subject : (bytes : List ℕ) → ¬ (IsUtf8 bytes) → subject_of bytes ≡ None
no_subject [] not_text = absurd (not_text IsUtf8-nil)
no_subject (b ∷ bytes) not_text = ap (option_map Shipped) (no_kind (b ∷ bytes) not_text)
