-- The parts of an image: the operands of an instruction by its sort, and what stands before the lines.
use Rattle.std.specs.Int.{w16, to_be_bytes}
use Rattle.std.specs.Prelude.{ℕ, List, [], ◌++◌, length}
use Rattle.snap_semantics.specs.declared.instr.Instr.{Instr}
use Rattle.snap_semantics.specs.declared.instr.Instr.TheVariants.{Let, LetPlace, Get, Bit, Look, Put, PutBit, PutView}
use Rattle.snap_semantics.specs.declared.instr.Instr.TheVariants.{ViewData, ViewOf, Each, First}
use Rattle.snap_semantics.specs.declared.instr.Instr.TheVariants.{Next, If, IfAll, Goto, Call}
use Rattle.snap_image.specs.Image.{operands_image, table_image}
use Rattle.snap_semantics.specs.Source.{Source}

-- of an instruction that reads or writes a register
abbrev pub access_image : Source → Instr → List ℕ
access_image s (Get x i j) = operands_image s (Get x i j)
access_image s (Bit x b i j) = operands_image s (Bit x b i j)
access_image s (Look x i) = operands_image s (Look x i)
access_image s (Put i t) = operands_image s (Put i t)
access_image s (PutBit b i j e) = operands_image s (PutBit b i j e)
access_image s (PutView i x) = operands_image s (PutView i x)
access_image s _ = []

-- of an instruction that sets a local by locals
abbrev pub assignment_image : Source → Instr → List ℕ
assignment_image s (Let x e) = operands_image s (Let x e)
assignment_image s (LetPlace x i e) = operands_image s (LetPlace x i e)
assignment_image s (ViewData x y) = operands_image s (ViewData x y)
assignment_image s (ViewOf x y i) = operands_image s (ViewOf x y i)
assignment_image s (Each g x e k) = operands_image s (Each g x e k)
assignment_image s _ = []

-- of an instruction that may lead to another line than the next
abbrev pub jump_image : Source → Instr → List ℕ
jump_image s (First x g k target) = operands_image s (First x g k target)
jump_image s (Next x g target) = operands_image s (Next x g target)
jump_image s (If k target) = operands_image s (If k target)
jump_image s (IfAll g k target) = operands_image s (IfAll g k target)
jump_image s (Goto target) = operands_image s (Goto target)
jump_image s (Call target) = operands_image s (Call target)
jump_image s _ = []

-- the names of all sorts
unfoldable pub tables_image : Source → List ℕ
tables_image s = table_image s.scalars ++ (table_image s.rows ++ (table_image s.words ++ table_image s.views))

-- the entries, and how many lines follow
unfoldable pub entries_image : Source → List ℕ
entries_image s = to_be_bytes w16 s.scan ++ (to_be_bytes w16 s.update ++ to_be_bytes w16 (length s.lines))
