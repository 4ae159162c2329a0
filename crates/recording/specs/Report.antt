-- docs/RULES.md, R14.7, R14.9 and R14.10: a report as two numbers, and as a line of text.
use Rattle.std.specs.Prelude.{ℕ, cond, List, [], ◌∷◌, ◌++◌, ltb, leb, length}
use Rattle.text.specs.Text.{decimal, line_feed}
use Rattle.recording.specs.Replay.{replay}
use Rattle.recording.specs.declared.Report.{Report}
use Rattle.recording.specs.declared.Report.TheVariants.{Same, Differs, BadItem, BadState}
use Rattle.recording.specs.declared.Reported.{Reported}

-- ---- R14.7: the reports, with a line for each in every column

abbrev pub report_number : Report → ℕ
report_number (Same n) = 0
report_number (Differs n) = 1
report_number (BadItem n) = 2
report_number BadState = 3

-- the item that it names, or how many there are
abbrev pub report_item : Report → ℕ
report_item (Same n) = n
report_item (Differs n) = n
report_item (BadItem n) = n
report_item BadState = 0

-- in ASCII: `same N`, `differs at N`, `bad item N`, `bad state`
abbrev pub report_text : Report → List ℕ
report_text (Same n) = (115 ∷ 97 ∷ 109 ∷ 101 ∷ 32 ∷ []) ++ decimal n
report_text (Differs n) = (100 ∷ 105 ∷ 102 ∷ 102 ∷ 101 ∷ 114 ∷ 115 ∷ 32 ∷ 97 ∷ 116 ∷ 32 ∷ []) ++ decimal n
report_text (BadItem n) = (98 ∷ 97 ∷ 100 ∷ 32 ∷ 105 ∷ 116 ∷ 101 ∷ 109 ∷ 32 ∷ []) ++ decimal n
report_text BadState = 98 ∷ 97 ∷ 100 ∷ 32 ∷ 115 ∷ 116 ∷ 97 ∷ 116 ∷ 101 ∷ []

-- ---- R14.9: as C is handed it

abbrev pub reported : Report → Reported
reported x = record { report = report_number x; item = report_item x }

-- ---- R14.10: the line that the command prints

-- `too long`
unfoldable pub too_long : List ℕ
too_long = 116 ∷ 111 ∷ 111 ∷ 32 ∷ 108 ∷ 111 ∷ 110 ∷ 103 ∷ []

unfoldable pub replay_line : List ℕ → List ℕ
replay_line input = cond (ltb 65536 (length input)) too_long (report_text (replay input)) ++ line_feed

-- every line fits: 11 letters and spaces, 20 digits, a line feed
abbrev pub line_room : ℕ
line_room = 32

-- what is put into an output buffer: the line, or nothing where the buffer is shorter than the room
unfoldable pub line_for : List ℕ → List ℕ → List ℕ
line_for input output = cond (leb line_room (length output)) (replay_line input) []
