-- `request_of`: what the name of a subcommand and its options ask the program for; `kind_of`: the kind of registers
-- that a name means.
use Rattle.std.specs.Prelude.{ℕ, ◌≤◌, List, Option, Some, None, ⊤, bytes_eq, codes, if◌then◌else◌}
use Rattle.snap_words.specs.Shape.{max_items}
use Rattle.snap_words.specs.declared.kind.KindTag.{KindTag}
use Rattle.snap_words.specs.declared.kind.KindTag.TheVariants as kind
use Rattle.snap_tasks.specs.declared.judge_request.JudgeSource.{JudgeSource}
use Rattle.snap_tasks.specs.declared.judge_request.JudgeSource.TheVariants as source
use Rattle.snap_tasks.specs.declared.task.Task.TheVariants as task
use Rattle.snap_tasks.specs.declared.request.Options.{Options}
use Rattle.snap_tasks.specs.declared.request.Request.{Request}
use Rattle.snap_tasks.specs.declared.request.Request.TheVariants.{Do, Live, Judge, Model}

-- the kind of this name
abbrev pub kind_of : List ℕ → Option KindTag
kind_of name =
    if bytes_eq name (codes "seq") then Some kind.Seq else
    if bytes_eq name (codes "bit") then Some kind.Bits else
    if bytes_eq name (codes "multi") then Some kind.Multi else None

-- what is judged
abbrev pub source_of : Options → JudgeSource
source_of o = if o.history then source.History else source.Run o.subject

-- what the subcommand of this name asks for, with these options: the listing where it runs one, the limit where it
-- plays scripts, what is judged, and how far, where it judges, and how many crash where it writes a model
abbrev pub request_of : List ℕ → Options → Option Request
request_of name o =
    if bytes_eq name (codes "check") then Some (Do task.Check) else
    if bytes_eq name (codes "lint") then Some (Do task.Lint) else
    if bytes_eq name (codes "assemble") then Some (Do task.Assemble) else
    if bytes_eq name (codes "list") then Some (Do task.List) else
    if bytes_eq name (codes "upgrade") then Some (Do task.Upgrade) else
    if bytes_eq name (codes "run") then Some (Do (task.Run o.subject)) else
    if bytes_eq name (codes "trace") then Some (Do (task.Trace o.subject)) else
    if bytes_eq name (codes "debug") then Some (Do (task.Debug o.subject)) else
    if bytes_eq name (codes "audit") then Some (Do (task.Audit o.subject)) else
    if bytes_eq name (codes "certify") then Some (Do (task.Certify o.subject)) else
    if bytes_eq name (codes "batch") then Some (Do (task.Batch o.subject)) else
    if bytes_eq name (codes "survey") then Some (Do (task.Survey o.subject)) else
    if bytes_eq name (codes "live") then Some (Live o.subject o.limit) else
    if bytes_eq name (codes "judge") then Some (Judge (record { source = source_of o; most = o.most })) else
    if bytes_eq name (codes "promela") then Some (Model o.subject o.crashes) else None

-- a limit that processes may have
abbrev pub IsLimit : ℕ → Type 0
IsLimit limit = (1 ≤ limit) × (limit ≤ max_items)

-- options that a command line may give: such a limit, and a search that may keep a configuration
abbrev pub AreOptions : Options → Type 0
AreOptions o = IsLimit o.limit × (1 ≤ o.most)

-- what is asked for has such a limit, where it has one
abbrev pub HasLimit : Request → Type 0
HasLimit (Do t) = ⊤
HasLimit (Live s limit) = IsLimit limit
HasLimit (Judge r) = 1 ≤ r.most
HasLimit (Model s crashes) = ⊤
