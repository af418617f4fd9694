-- Worked inputs of the definitions, computed: what comes of the items of
-- small runs, and which texts of listings and of schedules are refused.
use Rattle.std.specs.Prelude.{◌≡◌, List, [], ◌∷◌, Ok, Err, codes, refl}
use Rattle.snap_words.specs.Shape.{Counts}
use Rattle.snap_words.specs.declared.kind.KindTag.TheVariants.{Seq}
use Rattle.snap_semantics.specs.Listing.{listing_of}
use Rattle.snap_semantics.specs.Run.{after}
use Rattle.snap_semantics.specs.Schedule.{schedule_of}
use Rattle.snap_semantics.specs.Source.{Source}
use Rattle.snap_semantics.specs.State.{initial}
use Rattle.snap_semantics.specs.Table.{done}
use Rattle.snap_semantics.specs.declared.process.Cause.TheVariants.{OffEnd}
use Rattle.snap_semantics.specs.declared.process.Item.{Item}
use Rattle.snap_semantics.specs.declared.process.Item.TheVariants.{Step, Call, Crash}
use Rattle.snap_semantics.specs.declared.process.Op.TheVariants.{Scan, Update}
use Rattle.snap_semantics.specs.declared.process.Outcome.{Outcome}
use Rattle.snap_semantics.specs.declared.process.Outcome.TheVariants.{Skipped, Called, Trapped, Crashed}
use Rattle.snap_semantics.specs.declared.process.Reason.TheVariants as reason
use Rattle.snap_semantics.specs.declared.refusal.ListingRefusal.TheVariants as listing
use Rattle.snap_semantics.specs.declared.refusal.ScheduleRefusal.TheVariants as schedule
use Rattle.snap_semantics.proofs.OnLiterals.{listings_on_literals, schedules_on_literals}

-- a listing whose two operations begin at line 10
abbrev plain : Source
plain = record { kind = Seq; scalars = []; rows = []; words = []; views = []; scan = 10; update = 10; lines = [] }

abbrev two : Counts
two = record { n = 2; w = 2 }

-- what comes of an item after these
abbrev comes : List Item → Item → Outcome
comes xs x = (done plain two (after plain two (initial plain two) xs) x).1

-- a step of an idle process, an update of another's word, one of no word, and a scan that is called twice
skips :
    (comes [] (Step 1) ≡ Skipped reason.Idle)
    × (comes [] (Call 1 (Update 2 5)) ≡ Skipped reason.NotOwner)
    × (comes [] (Call 1 (Update 3 5)) ≡ Skipped reason.NoSuchWord)
    × (comes [] (Call 1 Scan) ≡ Called)
    × (comes (Call 1 Scan ∷ []) (Call 1 Scan) ≡ Skipped reason.Busy)
skips = (refl, refl, refl, refl, refl)

-- a crash of an idle process, after which it is neither stepped, called nor crashed; one of a
-- busy process; one that has trapped
crashes :
    (comes [] (Crash 1) ≡ Crashed)
    × (comes (Crash 1 ∷ []) (Step 1) ≡ Skipped reason.Crashed)
    × (comes (Crash 1 ∷ []) (Call 1 Scan) ≡ Skipped reason.Crashed)
    × (comes (Crash 1 ∷ []) (Crash 1) ≡ Skipped reason.Crashed)
    × (comes (Call 2 Scan ∷ []) (Crash 2) ≡ Crashed)
    × (comes (Call 2 Scan ∷ Crash 2 ∷ []) (Step 2) ≡ Skipped reason.Crashed)
    × (comes (Call 2 Scan ∷ []) (Step 2) ≡ Trapped OffEnd)
    × (comes (Call 2 Scan ∷ Step 2 ∷ []) (Crash 2) ≡ Skipped reason.Trapped)
crashes = (refl, refl, refl, refl, refl, refl, refl, refl)

-- the empty text; a target that is no line; numbers that don't rise; a 201st line
listings_refused :
    (listing_of [] ≡ Err (listing.BadHeader 1))
    × (listing_of (codes
    "kind seq\nscalar j c\nrow\nwords a\nview s\nscan 10\nupdate 10\n10: let j = 1\n12: next j n goto 11\n13: let c = c + 1\n14: put r[me] = (arg, c, s)\n15: finish\n")
    ≡ Err (listing.NoSuchLine 11))
    × (listing_of (codes
    "kind seq\nscalar j c\nrow\nwords a\nview s\nscan 10\nupdate 10\n10: let j = 1\n10: get a[j] = r[j]\n12: next j n goto 11\n13: let c = c + 1\n14: put r[me] = (arg, c, s)\n15: finish\n")
    ≡ Err (listing.NumberNotRising 9))
    × (listing_of (codes
    "kind seq\nscalar\nrow\nwords\nview\nscan 1\nupdate 1\n1: finish\n2: finish\n3: finish\n4: finish\n5: finish\n6: finish\n7: finish\n8: finish\n9: finish\n10: finish\n11: finish\n12: finish\n13: finish\n14: finish\n15: finish\n16: finish\n17: finish\n18: finish\n19: finish\n20: finish\n21: finish\n22: finish\n23: finish\n24: finish\n25: finish\n26: finish\n27: finish\n28: finish\n29: finish\n30: finish\n31: finish\n32: finish\n33: finish\n34: finish\n35: finish\n36: finish\n37: finish\n38: finish\n39: finish\n40: finish\n41: finish\n42: finish\n43: finish\n44: finish\n45: finish\n46: finish\n47: finish\n48: finish\n49: finish\n50: finish\n51: finish\n52: finish\n53: finish\n54: finish\n55: finish\n56: finish\n57: finish\n58: finish\n59: finish\n60: finish\n61: finish\n62: finish\n63: finish\n64: finish\n65: finish\n66: finish\n67: finish\n68: finish\n69: finish\n70: finish\n71: finish\n72: finish\n73: finish\n74: finish\n75: finish\n76: finish\n77: finish\n78: finish\n79: finish\n80: finish\n81: finish\n82: finish\n83: finish\n84: finish\n85: finish\n86: finish\n87: finish\n88: finish\n89: finish\n90: finish\n91: finish\n92: finish\n93: finish\n94: finish\n95: finish\n96: finish\n97: finish\n98: finish\n99: finish\n100: finish\n101: finish\n102: finish\n103: finish\n104: finish\n105: finish\n106: finish\n107: finish\n108: finish\n109: finish\n110: finish\n111: finish\n112: finish\n113: finish\n114: finish\n115: finish\n116: finish\n117: finish\n118: finish\n119: finish\n120: finish\n121: finish\n122: finish\n123: finish\n124: finish\n125: finish\n126: finish\n127: finish\n128: finish\n129: finish\n130: finish\n131: finish\n132: finish\n133: finish\n134: finish\n135: finish\n136: finish\n137: finish\n138: finish\n139: finish\n140: finish\n141: finish\n142: finish\n143: finish\n144: finish\n145: finish\n146: finish\n147: finish\n148: finish\n149: finish\n150: finish\n151: finish\n152: finish\n153: finish\n154: finish\n155: finish\n156: finish\n157: finish\n158: finish\n159: finish\n160: finish\n161: finish\n162: finish\n163: finish\n164: finish\n165: finish\n166: finish\n167: finish\n168: finish\n169: finish\n170: finish\n171: finish\n172: finish\n173: finish\n174: finish\n175: finish\n176: finish\n177: finish\n178: finish\n179: finish\n180: finish\n181: finish\n182: finish\n183: finish\n184: finish\n185: finish\n186: finish\n187: finish\n188: finish\n189: finish\n190: finish\n191: finish\n192: finish\n193: finish\n194: finish\n195: finish\n196: finish\n197: finish\n198: finish\n199: finish\n200: finish\n201: finish\n")
    ≡ Err (listing.TooMany 208))
unfolding listings_on_literals
listings_refused = (refl, refl, refl, refl)

-- a line feed that is missing; a bad shape; no steps; too many; a process that is not there; comments and spaces
schedules_read :
    (schedule_of (codes "shape 1 1") ≡ Ok (record { shape = record { n = 1; w = 1 }; items = [] }))
    × (schedule_of (codes "shape 0 1") ≡ Err schedule.BadShape)
    × (schedule_of (codes "shape 2 2\n2*0\n") ≡ Err (schedule.BadItem 2))
    × (schedule_of (codes "shape 3 3\n3*1000001\n") ≡ Err (schedule.TooManyItems 2))
    × (schedule_of (codes "shape 3 3\n4\n") ≡ Err (schedule.NoSuchProcess 2))
    × (schedule_of (codes "shape 2 2\n2 crash 1\n") ≡ Err (schedule.BadItem 2))
    × (schedule_of (codes "shape 2 2\n3 crash\n") ≡ Err (schedule.NoSuchProcess 2))
    × (schedule_of (codes "shape 2 2\n2\n2 crash\n")
    ≡ Ok (record { shape = record { n = 2; w = 2 }; items = Step 2 ∷ Crash 2 ∷ [] }))
    × (schedule_of (codes "shape 2 2 # two\n 2 * 3\n2\n")
    ≡ Ok (record { shape = record { n = 2; w = 2 }; items = Step 2 ∷ Step 2 ∷ Step 2 ∷ Step 2 ∷ [] }))
unfolding schedules_on_literals
schedules_read = (refl, refl, refl, refl, refl, refl, refl, refl, refl)
