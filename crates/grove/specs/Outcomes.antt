-- What each command may say of bytes, and what the program prints of it.
use Rattle.std.specs.Prelude.{◌≡◌, ℕ, ℤ, Bool, true, false, List, [], ◌∷◌, ◌++◌, length, nat_lt}
use Rattle.std.specs.Prelude.{if◌then◌else◌, Result, Ok, Err, IsSome, codes, decimal}
use Rattle.std.specs.Str.{is_utf8}
use Rattle.serde_json.specs.Data.{Data, string}
use Rattle.grove_tree.specs.Trees.{Rows}
use Rattle.grove_wire.specs.declared.fault.WireFault.{WireFault}
use Rattle.grove_wire.specs.Reading.{document_of, history_of, tree_in}
use Rattle.grove_wire.specs.declared.fault.WireFault.TheVariants.{Limit, Shape}
use Rattle.grove_wire.specs.declared.place.Part.TheVariants.{Whole}
use Rattle.grove_wire.specs.Documents.{document_text}
use Rattle.grove_wire.specs.Places.{whole_of}
use Rattle.grove_table.specs.declared.line.Line.{Line}
use Rattle.grove_table.specs.declared.tree_making.Absent.{Absent}
use Rattle.grove_table.specs.declared.tree_making.Absent.TheVariants.{Refused, Added}
use Rattle.grove_table.specs.Tables.{AreLinesOf, IsTreeOf}
use Rattle.grove_table.specs.Texts.{table_text}
use Rattle.grove_words.specs.declared.order.Command.{Command}
use Rattle.grove_words.specs.declared.order.Command.TheVariants.{Judge, Check, Plan, Draw, Run, Audit, Tree, Table}
use Rattle.grove_words.specs.declared.order.Command.TheVariants.{Serve, Page}
use Rattle.grove_words.specs.declared.order.Place.{Place}
use Rattle.grove_words.specs.declared.order.Serving.{Serving}
use Rattle.grove_store.specs.StoreStates.{StoreState}
use Rattle.grove_data.specs.Files.{OpensAs}
use Rattle.grove_answer.specs.Outcomes.{Outcome, ThenSays, task_in, trial_in, claim_in, sketch_in, batch_in, history_in}
use Rattle.grove_answer.specs.Outcomes.{IsJudged, IsChecked, IsPlannedTask, IsPlannedDocument, IsDrawn, IsRunBatch}
use Rattle.grove_answer.specs.Outcomes.{IsAudited}
use Rattle.grove.specs.Lines.{refusal_line, IsDataFault, NamesPlace}

-- ---- tree: the document of a table's text, and the table of a document

-- whether nodes are added that lines need above others, and that have none
abbrev pub absent_for : Bool → Absent
absent_for true = Added
absent_for false = Refused

-- a document of the tree of the lines of the text
abbrev pub IsMade : Absent → List ℕ → List ℕ → Type 0
IsMade absent text lines = (table : List Line) × AreLinesOf text table × (tree : Rows) × (records : List ℤ)
    × IsTreeOf absent table tree records × (lines ≡ document_text tree records ++ 10 ∷ [])

abbrev pub SaysTable : Bool → Data → Outcome → Type 0
SaysTable adds_parents document (Ok lines) =
    (text : List ℕ) × (document ≡ string text) × IsMade (absent_for adds_parents) text lines
SaysTable adds_parents document (Err fault) = Unit {0}

-- ---- serve and page: the lines of the place that is listened at; or that the file of rounds, if any, is refused

abbrev pub IsResumed : Place → Outcome → Type 0
IsResumed place (Ok lines) = NamesPlace place lines
IsResumed place (Err fault) = IsDataFault fault

abbrev pub IsServed : Serving → Rows × List ℤ → Outcome → Type 0
IsServed serving (tree, records) (Ok lines) = NamesPlace serving.place lines
IsServed serving (tree, records) (Err fault) = IsSome serving.data × IsDataFault fault

-- ---- data: the document of a store that bytes open as, or how many rounds it has done; or that they are refused

abbrev pub TellsStore : Bool → List ℕ → Type 0
TellsStore false lines = (file : List ℕ) × (store : StoreState) × OpensAs file store
    × (lines ≡ document_text store.rows store.records ++ 10 ∷ [])
TellsStore true lines = (file : List ℕ) × (store : StoreState) × OpensAs file store × (end : List ℕ)
    × (lines ≡ codes "rounds " ++ (decimal store.rounds ++ (codes "\nbytes " ++ (decimal (length file) ++ end))))

abbrev pub TellsFile : Bool → Outcome → Type 0
TellsFile checks (Ok lines) = TellsStore checks lines
TellsFile checks (Err fault) = IsDataFault fault

-- ---- what a command may say of a document, and of bytes

abbrev pub MaySay : Command → Data → Outcome → Type 0
MaySay Judge document = ThenSays (trial_in document) IsJudged
MaySay Check document = ThenSays (claim_in document) IsChecked
MaySay (Plan false) document = ThenSays (task_in document) IsPlannedTask
MaySay (Plan true) document = ThenSays (task_in document) IsPlannedDocument
MaySay (Draw form) document = ThenSays (sketch_in document) IsDrawn
MaySay (Run workers) document = ThenSays (batch_in document) IsRunBatch
MaySay Audit document = ThenSays (history_in document) IsAudited
MaySay (Tree adds_parents) document = SaysTable adds_parents document
MaySay Table document = ThenSays (tree_in document) (λ stored outcome. outcome ≡ Ok (table_text stored.0 stored.1))
MaySay (Serve serving) document = ThenSays (tree_in document) (IsServed serving)
MaySay (Page serving) document = ThenSays (tree_in document) (IsServed serving)

-- the text that bytes are
abbrev pub utf8_text : List ℕ → Result Data WireFault
utf8_text bytes = if is_utf8 bytes then Ok (string bytes) else Err (Shape (whole_of Whole))

-- the text that is to be a table, if it is one and isn't too long
abbrev pub text_of_table : List ℕ → Result Data WireFault
text_of_table bytes = if nat_lt 4194304 (length bytes) then Err (Limit (whole_of Whole)) else utf8_text bytes

-- the document that bytes are for a command; an audit's may be longer, and a table's is its text
abbrev pub document_for : Command → List ℕ → Result Data WireFault
document_for Audit bytes = history_of bytes
document_for (Tree adds_parents) bytes = text_of_table bytes
document_for _ bytes = document_of bytes

abbrev pub IsOutcome : Command → List ℕ → Outcome → Type 0
IsOutcome command bytes = ThenSays (document_for command bytes) (MaySay command)

-- ---- what is printed

-- what is done has the status `done`
abbrev pub outcome_status : ℕ → Outcome → ℕ
outcome_status done (Ok lines) = done
outcome_status done (Err fault) = 1

abbrev pub outcome_text : Outcome → List ℕ
outcome_text (Ok lines) = lines
outcome_text (Err fault) = refusal_line fault
