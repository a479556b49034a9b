-- Which command words are right: exactly one word, `check`, `graph` or `run`.
use Rattle.std.specs.Prelude.{ℕ, List, [], ◌∷◌, codes, Result, Ok, Err, if◌then◌else◌}
use Rattle.std.specs.Str.{bytes_eq}
use Rattle.aem.specs.declared.answer.Command.{Command}
use Rattle.aem.specs.declared.answer.Command.TheVariants.{Check, Graph, Run}
use Rattle.aem.specs.declared.answer.UsageKind.{UsageKind}
use Rattle.aem.specs.declared.answer.UsageKind.TheVariants.{NoMode, UnknownMode, Words}

-- a mode that takes no further words
abbrev pub mode_alone : Command → List (List ℕ) → Result Command UsageKind
mode_alone command [] = Ok command
mode_alone command (word ∷ words) = Err Words

-- what the words ask for, or what is wrong with them
abbrev pub command_of : List (List ℕ) → Result Command UsageKind
command_of [] = Err NoMode
command_of (mode ∷ words) =
    if bytes_eq mode (codes "check") then mode_alone Check words
    else (if bytes_eq mode (codes "run") then mode_alone Run words
    else (if bytes_eq mode (codes "graph") then mode_alone Graph words else Err UnknownMode))
