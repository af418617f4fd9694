-- `Word`: what register r[k] contains, for every kind of registers:
-- datum, sequence number, id, toggle, handshake bits and view.
use Rattle.std.specs.Prelude.{ℕ, List, []}

-- a word of any kind; what a kind lacks is 0 or empty
pub record Word : Type 0 where
  pub datum : ℕ
  pub seq : ℕ
  pub id : ℕ
  pub toggle : ℕ
  pub handshakes : List ℕ
  pub view : List ℕ

-- stands where there is no word
abbrev pub no_word : Word
no_word = record { datum = 0; seq = 0; id = 0; toggle = 0; handshakes = []; view = [] }
