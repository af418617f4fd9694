-- Stories: turns in which a few processes move in a fixed order, and chance decides how far each goes.
use Rattle.std.specs.Prelude.{ℕ, ◌+◌, ◌/◌, ◌%◌, Bool, true, false, List, [], ◌∷◌, Some, get_or, nat_eq, if◌then◌else◌}
use Rattle.snap_semantics.specs.declared.process.Op.{Op}
use Rattle.snap_semantics.specs.declared.process.Op.TheVariants.{Scan, Update}
use Rattle.snap_chance.specs.Plan.{Plan}
use Rattle.snap_chance.specs.Turns.{round_process, whole_update, word_of}
use Rattle.snap_chance.specs.declared.draws.Draws.{Draws}
use Rattle.snap_chance.specs.declared.stories.Scene.{Scene}
use Rattle.snap_chance.specs.declared.stories.Extent.{Extent}
use Rattle.snap_chance.specs.declared.stories.Extent.TheVariants.{Whole, Early, Late, Part, Any}
use Rattle.snap_chance.specs.declared.turns.Turn.{Turn}

-- an update, or a scan, of a process of the story, as far as that
abbrev pub update_scene : (number : ℕ) → Extent → Scene
update_scene number extent = record { number = number; updates = true; extent = extent }

abbrev pub scan_scene : (number : ℕ) → Extent → Scene
scan_scene number extent = record { number = number; updates = false; extent = extent }

-- Process 0 updates and process 1 scans, in parts; process 2 updates between them, and then scans.
abbrev pub witness_scenes : List Scene
witness_scenes =
    update_scene 0 Part ∷ update_scene 2 Any ∷ scan_scene 1 Part ∷ update_scene 2 Any ∷ scan_scene 2 Whole
    ∷ update_scene 0 Any ∷ update_scene 0 Part ∷ scan_scene 1 Any ∷ []

-- Process 0 comes near the end of an update. Process 1 makes an update of its own, and begins a scan, which goes on bit
-- by bit while process 0 ends its update and makes another one.
abbrev pub duel_scenes : List Scene
duel_scenes =
    update_scene 0 Whole ∷ update_scene 0 Late ∷ update_scene 1 Whole ∷ scan_scene 1 Early ∷ update_scene 0 Whole
    ∷ scan_scene 1 Late ∷ update_scene 0 Early ∷ scan_scene 1 Late ∷ update_scene 0 Late ∷ scan_scene 1 Whole ∷ []

-- how many steps an extent is, where an update takes so many
abbrev pub extent_of : Extent → (whole : ℕ) → Draws → ℕ
extent_of Whole whole d = whole
extent_of Early whole d = d.length % (whole / 2) + 1
extent_of Late whole d = whole / 2 + d.length % (whole / 2) + 1
extent_of Part whole d = d.length % whole + 1
extent_of Any whole d = if nat_eq (d.scale % 2) 0 then d.length % whole + 1 else whole

-- what a process is asked for in a scene: an update, of a value that no other has, or a scan
abbrev pub scene_op : Plan → (t i : ℕ) → Bool → Draws → Op
scene_op p t i updates d = if updates then Update (word_of p i d) t else Scan

-- the turn of a scene
abbrev pub scene_turn : Plan → (k t : ℕ) → Scene → Draws → Turn
scene_turn p k t s d = record {
  process = round_process p k s.number;
  call = Some (scene_op p t (round_process p k s.number) s.updates d);
  steps = extent_of s.extent (whole_update p) d;
}

-- a turn with witnesses
abbrev pub witness_turn : Plan → (k t : ℕ) → Draws → Turn
witness_turn p k t d = scene_turn p k t (get_or witness_scenes (t % 8) (scan_scene 0 Whole)) d

-- a turn of a duel
abbrev pub duel_turn : Plan → (k t : ℕ) → Draws → Turn
duel_turn p k t d = scene_turn p k t (get_or duel_scenes (t % 10) (scan_scene 0 Whole)) d
