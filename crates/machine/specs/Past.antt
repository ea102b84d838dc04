-- The read word of a scan, and the past sensor word that it reads.
-- Assumes nothing.
use Rattle.std.specs.Prelude.{ℕ, Bool, cond}
use Rattle.words.specs.Word.{bit}
use Rattle.words.specs.Loop.{word}
use Rattle.scan.specs.declared.set.Kind.{Kind}
use Rattle.scan.specs.declared.set.Kind.TheVariants.{Sensor, PastOutput, PastSensor}
use Rattle.scan.specs.declared.set.Set.{Set}
use Rattle.scan.specs.Set.{kind}

-- what a read point of this kind, at bit k, reads: the sensor word, or the bit of a past that its index names
abbrev pub reading : ℕ → ℕ → ℕ → ℕ → Kind → Bool
reading output sensor present k Sensor = bit k present
reading output sensor present k (PastOutput i) = bit i output
reading output sensor present k (PastSensor i) = bit i sensor

-- the past sensor word that a scan reads: the state's; where no scan was accepted since the start, a past sensor reads as the sensor does now
abbrev pub sensor_before : Bool → ℕ → ℕ → ℕ
sensor_before accepted sensor present = cond accepted sensor present

-- read point k of the set
unfoldable pub reading_at : Set → ℕ → ℕ → ℕ → ℕ → Bool
reading_at s output sensor present k = reading output sensor present k (kind s k)

-- the sensor word `present`, with past points filled from the past output word and the past sensor word
unfoldable pub read_word : Set → ℕ → ℕ → ℕ → ℕ
read_word s output sensor present = word s.r (reading_at s output sensor present)
