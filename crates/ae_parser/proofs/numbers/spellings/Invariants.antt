use Rattle.std.proofs.Common.{◌≡◌, ◌≤◌, ◌+◌, length, drop}
use Rattle.std.specs.Prelude.{bytes_eq}
use Rattle.indexmap.specs.IndexSet.{insert_all}
use Rattle.ae_tree.specs.Names.{names_of, spellings}
use Rattle.ae_parser.specs.Slices.{slices_bytes}
use Rattle.ae_parser.proofs.numbers.spellings.Given as goal

abbrev pub invariant-loop-token : goal.invariant-loop-token
invariant-loop-token l = record {
  names : insert_all bytes_eq (slices_bytes l.names.keys) (spellings (drop l.token-index l.tokens)) ≡ names_of l.tokens;
  few : length l.names.keys ≤ l.token-index + 3;
}
