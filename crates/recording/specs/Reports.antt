-- docs/RULES.md, R14.8: when each report is given. The statement; its proof is in proofs/Reports.antt.
use Rattle.std.specs.Prelude.{ℕ, zero, suc, ◌+◌, ◌≤◌, ◌<◌, List, ◌↔◌, ◌≡◌, length, drop}
use Rattle.machine.specs.State.{State, Stepped}
use Rattle.forms.specs.Saved.{size_at, load_front}
use Rattle.recording.specs.Item.{item_version, expected_number, code_count, code_in, memory_count, expected_control, expected_destination}
use Rattle.recording.specs.Item.{item_size}
use Rattle.recording.specs.Replay.{step_of, shown_by, replay}
use Rattle.recording.specs.declared.Report.{Report}
use Rattle.recording.specs.declared.Report.TheVariants.{Same, Differs, BadItem, BadState}

-- R14.3, of the item that bytes begin with
pub record WellFormed (bytes : List ℕ) : Type 0 where
  pub whole : item_size bytes ≤ length bytes
  pub field : size_at bytes ≡ item_size bytes
  pub version : item_version bytes ≡ 1
  pub code : code_count bytes ≤ 15
  pub memory : memory_count bytes ≤ 4096

-- R14.6, of what a step gave
pub record Agrees (o : Stepped) (bytes : List ℕ) : Type 0 where
  pub number : o.answer.number ≡ expected_number bytes
  pub control : o.state.control ≡ expected_control bytes
  pub destination : shown_by o (code_in bytes) ≡ expected_destination bytes

module _ (recording : List ℕ) where
  -- R14.1: the saved form loads
  abbrev pub Loads : Type 0
  Loads = (load_front recording).number ≡ 0

  -- R14.1: where item k begins, and the bytes from there on
  unfoldable pub item_at : ℕ → ℕ
  item_at zero = size_at recording
  item_at (suc k) = item_at k + item_size (drop (item_at k) recording)

  abbrev pub from : ℕ → List ℕ
  from k = drop (item_at k) recording

  -- R14.4: the machine's state before item k, and what its step gives
  unfoldable pub state_before : ℕ → State
  state_before zero = (load_front recording).state
  state_before (suc k) = (step_of (state_before k) (from k)).state

  abbrev pub stepped_at : ℕ → Stepped
  stepped_at k = step_of (state_before k) (from k)

  -- R14.7: the first n items are well formed and agree
  abbrev pub GoodBefore : ℕ → Type 0
  GoodBefore n = (k : ℕ) → k < n → WellFormed (from k) × Agrees (stepped_at k) (from k)

  -- R14.8: what each report says
  abbrev pub Says : Report → Type 0
  Says (Same n) = Loads × GoodBefore n × (item_at n ≡ length recording)
  Says (Differs n) = Loads × GoodBefore n × WellFormed (from n) × ¬ Agrees (stepped_at n) (from n)
  Says (BadItem n) = Loads × GoodBefore n × (item_at n < length recording) × ¬ WellFormed (from n)
  Says BadState = ¬ Loads

-- R14.8: of every recording.
abbrev pub Reports : Type 0
Reports = (recording : List ℕ) (report : Report) → (replay recording ≡ report) ↔ Says recording report
