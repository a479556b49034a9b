-- How many fields the class of a kind has.
use Rattle.std.specs.Prelude.{ℕ, length, Option, None, option_map}
use Rattle.ae_tree.specs.declared.tree.Class.{Class}
use Rattle.ae_tree.specs.declared.form.Kind.{Kind}
use Rattle.ae_tree.specs.declared.form.Form.{Form}
use Rattle.ae_tree.specs.declared.form.Form.TheVariants as f
use Rattle.ae_tree.specs.Plain.{Code}
use Rattle.ae_rules.specs.Lookups.{class_of}

-- the number of fields of a kind's class, where it has a class that is declared
abbrev pub fields_of_kind : Code → Kind → Option ℕ
fields_of_kind p k = option_map (λ (d : Class). length d.fields) (class_of p k)

-- the same for the kind that a form has
abbrev pub fields_of_form : Code → Form → Option ℕ
fields_of_form p f.Int = None
fields_of_form p f.Bool = None
fields_of_form p (f.Object q k) = fields_of_kind p k
