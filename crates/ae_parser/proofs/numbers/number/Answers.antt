use Rattle.std.proofs.Common.{◌∙◌, ap₂, refl}
use Rattle.std.specs.Prelude.{unwrap_or, bytes_eq}
use Rattle.ae_parser.proofs.NumberLemmas.{position_same, position_found}
use Rattle.ae_parser.proofs.numbers.number.Goals as goal

pub returns : goal.returns
returns c =
    c.unwrap_or.ensures ∙ ap₂ unwrap_or c.get_index_of.ensures.index c.len.ensures.len
    ∙ position_found (λ x. bytes_eq c.args.spelling.now x.now) c.args.names.now.keys
    ∙ position_same (λ x. bytes_eq c.args.spelling.now x.now) c.args.spelling.now (λ b. refl) c.args.names.now.keys
