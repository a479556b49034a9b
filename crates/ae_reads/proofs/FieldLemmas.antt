-- Facts on fields by name: their number and their form.
use Rattle.std.proofs.Common.{◌≡◌, ◌∙◌, ℕ, refl, sym, ap, Option, None, Some}
use Rattle.std.specs.Prelude.{option_map, slice_get}
use Rattle.ae_tree.specs.declared.tree.Class.{Class}
use Rattle.ae_tree.specs.declared.form.Kind.{Kind}
use Rattle.ae_tree.specs.declared.form.Form.{Form}
use Rattle.ae_tree.specs.Plain.{Code}
use Rattle.ae_rules.specs.declared.table.Member.TheVariants as member
use Rattle.ae_rules.specs.Verdict.{given}
use Rattle.ae_rules.specs.Lookups.{class_of, field_number, field_called, field_form, field_of_kind, groups_of}
use Rattle.ae_rules.specs.Lookups.{method_number, member_called}
use Rattle.ae_semantics.specs.Places.{NumberedField, numbered_as, numbered_field}
use Rattle.ae_reads.proofs.from_judge.LookupLemmas.{of_field, member_is_a_method, no_member_no_field}

abbrev in_class : Code → Kind → ℕ → Class → Option NumberedField
in_class p k x c = given (field_number c x) None (numbered_as (field_of_kind p k x))

-- the form of the field with this number, in an object of this kind
abbrev form_of_number : Class → Kind → ℕ → Option Form
form_of_number c k n = option_map (field_form c (groups_of k)) (slice_get c.fields n)

-- where a class has no field with a name no object of it has one
no_field : (p : Code) (k : Kind) (x : ℕ) (c : Class) → class_of p k ≡ Some c → None ≡ field_called c x
    → numbered_field p k x ≡ None
no_field p k x c of_class none = ap (λ o. given o None (in_class p k x)) of_class
    ∙ ap (λ o. given (field_number c x) None (numbered_as o)) (ap by_class of_class
    ∙ ap (option_map (field_form c (groups_of k))) (sym none))
    ∙ either_way (field_number c x)
  where
    by_class : Option Class → Option Form
    by_class o = given o None (λ (d : Class). option_map (field_form d (groups_of k)) (field_called d x))

    either_way : (n : Option ℕ) → given n None (numbered_as None) ≡ None
    either_way None = refl
    either_way (Some n) = refl

-- a member that is a field has its number, and the form that it has in an object of this kind
pub field_is_numbered : (p : Code) (k : Kind) (x : ℕ) (c : Class) (n : ℕ) → class_of p k ≡ Some c
    → Some (member.Field n) ≡ member_called p c x → numbered_field p k x ≡ numbered_as (form_of_number c k n) n
field_is_numbered p k x c n of_class is =
    let number : field_number c x ≡ Some n = of_field (field_number c x) (method_number p c x) n is in
    ap (λ o. given o None (in_class p k x)) of_class
    ∙ ap (λ o. given o None (numbered_as (field_of_kind p k x))) number
    ∙ ap (λ o. numbered_as (given o None (λ (d : Class). option_map (field_form d (groups_of k)) (field_called d x))) n)
    of_class
    ∙ ap (λ o. numbered_as (option_map (field_form c (groups_of k)) (given o None (slice_get c.fields))) n) number

-- a member that is a method is no field
pub method_is_no_field : (p : Code) (k : Kind) (x : ℕ) (c : Class) (n : ℕ) → class_of p k ≡ Some c
    → Some (member.Method n) ≡ member_called p c x → numbered_field p k x ≡ None
method_is_no_field p k x c n of_class is = no_field p k x c of_class (member_is_a_method p c x n is)

-- where there is no member there is no field
pub nothing_is_no_field : (p : Code) (k : Kind) (x : ℕ) (c : Class) → class_of p k ≡ Some c
    → None ≡ member_called p c x → numbered_field p k x ≡ None
nothing_is_no_field p k x c of_class is = no_field p k x c of_class (no_member_no_field p c x is)

pub ruleset fields = (field_is_numbered, method_is_no_field, nothing_is_no_field)
