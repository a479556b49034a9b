-- What is taken of a source that is read to its end, and what a sink has of a text that is written to it.
use Rattle.std.specs.Prelude.{◌≡◌, ℕ, ◌+◌, ◌≤◌, List, length, take, Result, Ok, Err, Option}
use Rattle.std.specs.Io.KnownBytes.{Consumes, IsAtEnd, Appends}
use Rattle.ae_text.specs.declared.whole.ReadEnd.{ReadEnd}
use Rattle.ae_text.specs.declared.whole.ReadEnd.TheVariants.{ReadFault, TooLong, Memory}
use Rattle.ae_text.specs.declared.whole.WriteFault.{WriteFault}

abbrev pub most : ℕ
most = 1048576

-- what an answer says of the bytes that were taken
abbrev pub Read : Option (List ℕ) → List ℕ → Result (List ℕ) ReadEnd → Type 0
Read after bytes (Ok text) = (text ≡ bytes) × (length bytes ≤ most) × IsAtEnd after
Read after bytes (Err TooLong) = length bytes ≡ most + 1
Read after bytes (Err ReadFault) = length bytes ≤ most
Read after bytes (Err Memory) = length bytes ≤ most

-- the bytes taken: all of them up to the end at Ok, and one too many exactly at TooLong
abbrev pub ReadsWhole : Option (List ℕ) → Option (List ℕ) → Result (List ℕ) ReadEnd → Type 0
ReadsWhole before after result = (bytes : List ℕ) × Consumes before after bytes × Read after bytes result

-- the bytes that the sink took of a text: all of it at Ok, and the first ones where it failed
abbrev pub WritesWhole : Option (List ℕ) → Option (List ℕ) → List ℕ → Result (Unit {0}) WriteFault → Type 0
WritesWhole before after text (Ok _) = Appends before after text
WritesWhole before after text (Err fault) = (fault.done ≤ length text) × Appends before after (take fault.done text)
