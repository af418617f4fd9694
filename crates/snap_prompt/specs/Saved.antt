-- What the debugger's prompt says of a schedule that was to be saved as a file: that it was, or why it was not; and
-- `Saves`, what a folder has kept then.
use Rattle.std.specs.Prelude.{◌≡◌, ℕ, List, ◌++◌, [], ◌∷◌, Bool, false, nat_eq, Option, Result, Ok, Err, codes, is_ok}
use Rattle.std.specs.declared.io.ErrorKind.{ErrorKind}
use Rattle.std.specs.declared.io.ErrorKind.TheVariants as kind
use Rattle.snap_text.specs.Drafted.{Adds, Drafted}
use Rattle.snap_streams.specs.Folder.{Keeps, Kept}

-- why a file was not written, for a person
abbrev pub save_reason : ErrorKind → List ℕ
save_reason kind.AlreadyExists = codes "there is such a file, and `save!` writes over it"
save_reason kind.NotFound = codes "there is no such folder"
save_reason kind.PermissionDenied = codes "permission denied"
save_reason kind.IsADirectory = codes "is a directory"
save_reason kind.InvalidInput = codes "no name of a file"
save_reason _ = codes "cannot be written"

-- what is said of a schedule that was saved under a name, or was not for this reason
abbrev pub saved_line : (name : List ℕ) → Result (Unit {0}) ErrorKind → List ℕ
saved_line name (Ok done) = codes "saved: " ++ name ++ codes "\n"
saved_line name (Err k) = codes "refused: " ++ name ++ codes ": " ++ save_reason k ++ codes "\n"

-- a line may be said of a schedule that was to be saved under a name
abbrev pub IsSavedLine : (name it : List ℕ) → Type 0
IsSavedLine name it = (done : Result (Unit {0}) ErrorKind) × (it ≡ saved_line name done)

-- Whether it says that the schedule was saved: of `saved: ..` and `refused: ..`, only the first begins with an s.
abbrev pub tells_saved : List ℕ → Bool
tells_saved [] = false
tells_saved (b ∷ bs) = nat_eq b 115

-- What is said of a text that was put into a folder under a name is so: that it was saved where the folder has kept it,
-- and nothing else; and this tells whether it was.
abbrev pub Saves : (name text : List ℕ) → (before after : Option (List Kept)) → (old new : Drafted) →
    (is_saved : Bool) → Type 0
Saves name text before after old new is_saved =
    (done : Result (Unit {0}) ErrorKind) × Keeps done before after name text × Adds old new (saved_line name done)
    × (is_saved ≡ is_ok done)
