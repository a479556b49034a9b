-- What the answers of this crate show.
use Rattle.ae_tree.specs.declared.form.Form.{Form}
use Rattle.ae_tree.specs.declared.form.Form.TheVariants as f
use Rattle.ae_rules.specs.Walks.{Place as PlaceThere}
use Rattle.ae_rules.specs.Expressions.{Operands as OperandsThere}
use Rattle.ae_rules.specs.Expressions.{Numbers, Truths, Equals}
use Rattle.ae_rules.specs.Into.{Source as SourceThere}
use Rattle.ae_rules.specs.Into.{Null, From}
use Rattle.ae_judge.specs.declared.walks.Place.{Place}
use Rattle.ae_judge.specs.declared.values.Scalar.{Scalar}
use Rattle.ae_judge.specs.declared.values.Scalar.TheVariants as scalar
use Rattle.ae_judge.specs.declared.values.Operands.{Operands}
use Rattle.ae_judge.specs.declared.values.Operands.TheVariants as operands
use Rattle.ae_judge.specs.declared.fitting.Source.{Source}
use Rattle.ae_judge.specs.declared.fitting.Source.TheVariants as source

-- a place that was walked to
abbrev pub place_of : Place → PlaceThere
place_of w = record { form = w.form; held = w.held }

-- the form of what is no object
abbrev pub form_of : Scalar → Form
form_of scalar.Int = f.Int
form_of scalar.Bool = f.Bool

-- what an operator asks of its operands
abbrev pub operands_of : Operands → OperandsThere
operands_of operands.Numbers = Numbers
operands_of operands.Truths = Truths
operands_of operands.Equals = Equals

-- what stands where an object goes
abbrev pub source_of : Source → SourceThere
source_of source.Null = Null
source_of (source.From path) = From path.now
