-- What was read of the files that a command line names, or the first reason why they are not read.
use Rattle.std.proofs.Common.{◌≡◌, ℕ, List, Vec, Result, Ok, Err, Option, refl, sym, ap, subst}
use Rattle.std.specs.Prelude.{IsErr, IsErrAnd}
use Rattle.std.specs.Global.{Global}
use Rattle.std.specs.declared.io.ErrorKind.{ErrorKind}
use Rattle.snap_words.specs.declared.kind.KindTag.{KindTag}
use Rattle.snap_semantics.specs.Answers.{◌>>=◌, refused_as}
use Rattle.snap_streams.specs.FileTexts.{Gives, IsTextOf, Reads}
use Rattle.snap_streams.specs.declared.file_fault.FileFault.{FileFault}
use Rattle.snap_streams.specs.declared.file_fault.FileFault.TheVariants as file
use Rattle.snap_streams.proofs.Texts.{some_text, text_read}
use Rattle.snap_named_files.specs.Named.{Files, Shipped}
use Rattle.snap_named_files.specs.Texts.{AreTexts, Comes, IsTextIn, Read, OfFiles, OfShipped, too_many, view_texts}
use Rattle.snap_faults.specs.Faults.{of_file}
use Rattle.snap_faults.specs.declared.files.Which.{Which}
use Rattle.snap_faults.specs.declared.files.Which.TheVariants as which
use Rattle.snap_faults.specs.declared.fault.ProgramFault.{ProgramFault}
use Rattle.snap_faults.specs.declared.fault.ProgramFault.TheVariants as fault
use Rattle.snap_named_files.specs.declared.texts.Texts.{Texts}
use Rattle.snap_named_files.specs.declared.texts.Texts.TheVariants as texts

-- what holds of a fault holds where it is passed on
pub passed : {A : Type 0} (P : Result A ProgramFault → Type 0) (answer : Result A ProgramFault) (e : ProgramFault) →
    IsErr answer × IsErrAnd answer (λ f. f ≡ e) → P (Err e) → P answer
passed P (Ok x) e from h = absurd from.1
passed P (Err f) e from h = subst (λ x. P (Err x)) (sym from.1) h

gives_text : (w : Which) (r : Result (Vec ℕ Global) FileFault) (text : Result (List ℕ) FileFault) → Gives r text →
    Comes (λ v. v.items) (refused_as (of_file w) r) (refused_as (of_file w) text)
gives_text w (Ok v) text h = ap (refused_as (of_file w)) h
gives_text w (Err file.Memory) text h = tt
gives_text w (Err file.TooLong) text h = ap (refused_as (of_file w)) h
gives_text w (Err (file.Unread k)) text h = ap (refused_as (of_file w)) h

-- what was read of a file
pub has_text : (w : Which) (there : Option (Result (List ℕ) ErrorKind)) (r : Result (Vec ℕ Global) FileFault) →
    Reads too_many there r →
    (text : Result (List ℕ) FileFault) × IsTextOf too_many there text
    × Comes (λ v. v.items) (refused_as (of_file w) r) (refused_as (of_file w) text)
has_text w there r h = let read = text_read too_many there r h in (read.0, read.1, gives_text w r read.0 read.2)

-- reading ends with a file that is not read
stops_reading : (e : ProgramFault) (x : Result (List ℕ) ProgramFault) (k : List ℕ → Result Read ProgramFault) →
    Comes {X = Vec ℕ Global} (λ v. v.items) (Err e) x → Comes view_texts (Err e) (x >>= k)
stops_reading fault.Memory x k h = tt
stops_reading (fault.TooLong w) x k h = ap (λ y. y >>= k) h
stops_reading (fault.Unread w i) x k h = ap (λ y. y >>= k) h
stops_reading e x k h = absurd h

goes_on_reading : (read : Result Texts ProgramFault) (t : List ℕ) (x : Result (List ℕ) ProgramFault)
    (k : List ℕ → Result Read ProgramFault) → x ≡ Ok t → Comes view_texts read (k t) → Comes view_texts read (x >>= k)
goes_on_reading read t x k is h = subst (λ y. Comes view_texts read (y >>= k)) (sym is) h

module _ (files : List ℕ → Option (Result (List ℕ) ErrorKind)) where
  -- the listing was not read
  pub no_listing : (listing schedule : List ℕ) (e : ProgramFault) (l : Result (List ℕ) FileFault) →
      IsTextIn files listing l →
      Comes {X = Vec ℕ Global} (λ v. v.items) (Err e) (refused_as (of_file which.Listing) l) →
      AreTexts files (Files listing schedule) (Err e)
  no_listing listing schedule e l is h =
      let other = some_text too_many (files schedule) in (
        l,
        other.0,
        is,
        other.1,
        stops_reading e (refused_as (of_file which.Listing) l)
            (λ a. refused_as (of_file which.Schedule) other.0 >>= (λ b. Ok (OfFiles a b))) h,
      )

  -- the schedule was not read
  pub no_schedule : (listing schedule text : List ℕ) (e : ProgramFault) (l s : Result (List ℕ) FileFault) →
      IsTextIn files listing l → refused_as (of_file which.Listing) l ≡ Ok text → IsTextIn files schedule s →
      Comes {X = Vec ℕ Global} (λ v. v.items) (Err e) (refused_as (of_file which.Schedule) s) →
      AreTexts files (Files listing schedule) (Err e)
  no_schedule listing schedule text e l s is read its h = (
    l,
    s,
    is,
    its,
    goes_on_reading (Err e) text (refused_as (of_file which.Listing) l)
        (λ a. refused_as (of_file which.Schedule) s >>= (λ b. Ok (OfFiles a b))) read
        (stops_reading e (refused_as (of_file which.Schedule) s) (λ b. Ok (OfFiles text b)) h),
  )

  -- both texts were read
  pub both_read : (listing schedule : List ℕ) (v w : Vec ℕ Global) (l s : Result (List ℕ) FileFault) →
      IsTextIn files listing l → refused_as (of_file which.Listing) l ≡ Ok v.items → IsTextIn files schedule s →
      refused_as (of_file which.Schedule) s ≡ Ok w.items →
      AreTexts files (Files listing schedule) (Ok (texts.Files v w))
  both_read listing schedule v w l s is read its red = (
    l,
    s,
    is,
    its,
    goes_on_reading (Ok (texts.Files v w)) v.items (refused_as (of_file which.Listing) l)
        (λ a. refused_as (of_file which.Schedule) s >>= (λ b. Ok (OfFiles a b))) read
        (goes_on_reading (Ok (texts.Files v w)) w.items (refused_as (of_file which.Schedule) s)
        (λ b. Ok (OfFiles v.items b)) red refl),
  )

  -- the schedule of a shipped listing was not read
  pub no_items : (kind : KindTag) (schedule : List ℕ) (e : ProgramFault) (s : Result (List ℕ) FileFault) →
      IsTextIn files schedule s →
      Comes {X = Vec ℕ Global} (λ v. v.items) (Err e) (refused_as (of_file which.Schedule) s) →
      AreTexts files (Shipped kind schedule) (Err e)
  no_items kind schedule e s its h =
      (s, its, stops_reading e (refused_as (of_file which.Schedule) s) (λ b. Ok (OfShipped kind b)) h)

  -- the schedule was read
  pub items_read : (kind : KindTag) (schedule : List ℕ) (v : Vec ℕ Global) (s : Result (List ℕ) FileFault) →
      IsTextIn files schedule s → refused_as (of_file which.Schedule) s ≡ Ok v.items →
      AreTexts files (Shipped kind schedule) (Ok (texts.Shipped kind v))
  items_read kind schedule v s its red = (
    s,
    its,
    goes_on_reading (Ok (texts.Shipped kind v)) v.items (refused_as (of_file which.Schedule) s)
        (λ b. Ok (OfShipped kind b)) red refl,
  )
