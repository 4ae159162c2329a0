-- What the functions that write promise. No clause: used by the code, nothing to believe.
use Rattle.std.specs.Prelude.{ℕ, ◌+◌, ◌≡◌, List, ◌++◌, length, take, drop}

-- A text was put into a buffer at a place, and `next` is the place behind it; all else is as before.
pub record Put (text before : List ℕ) (at next : ℕ) (after : List ℕ) : Type 0 where
  pub place : next ≡ at + length text
  pub buffer : after ≡ take at before ++ text ++ drop (at + length text) before
