-- What the code computes of all lanes. No clause: used by the code, nothing to believe. The laws of the crate step (proofs/Meaning.antt)
-- tie it to the machine's definitions.
use Rattle.std.specs.Prelude.{ℕ, Bool, List, ◌≡◌, get_or, Option, None, Some}
use Rattle.lists.specs.Lists.{or_all}
use Rattle.half.specs.Work.{picked}
use Rattle.evex.specs.declared.Operation.{Operation}
use Rattle.machine.specs.declared.Environment.{Environment}
use Rattle.machine.specs.declared.Element.{Element}
use Rattle.machine.specs.Lanes.{Sources, lanes_on, rounded, operated, element_at}
use Rattle.lanes.specs.declared.Results.{Results}
use Rattle.lanes.specs.declared.Lanes.{Lanes}
use Rattle.lanes.specs.declared.Picking.{Picking}

-- halves that are 0 in lanes that are off, and all of them or-ed
abbrev pub lanes_of : (ℕ → Bool) → (ℕ → ℕ) → Lanes
lanes_of on half = record { halves = lanes_on on half; joined = or_all (lanes_on on half) }

-- of what each lane gives
unfoldable pub results_by : (ℕ → Bool) → (ℕ → Element) → Results
results_by on lane =
    record {
      halves = lanes_on on (λ j. (lane j).value);
      joined = or_all (lanes_on on (λ j. (lane j).value));
      flags = or_all (lanes_on on (λ j. (lane j).flags));
    }

-- of an operation
abbrev pub results_where : (ℕ → Bool) → Operation → Environment → Sources → Results
results_where on op e g = results_by on (element_at op e g)

-- what is picked of two halves, and of two lanes
abbrev pub picked_by : Picking → ℕ → ℕ → Element
picked_by p f x = rounded (picked p.predicate p.compares f x)

abbrev pub picked_at : Picking → List ℕ → List ℕ → ℕ → Element
picked_at p f x j = picked_by p (get_or f j 0) (get_or x j 0)

-- what is picked by, if anything, is the operation's own
abbrev pub Serves : Operation → Environment → Option Picking → Type 0
Serves op e None = Unit {0}
Serves op e (Some p) = (d f x : ℕ) → operated op e d f x ≡ picked_by p f x
