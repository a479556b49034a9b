-- What a class has under a name, by its kind.
use Rattle.std.proofs.Common.{◌≡◌, ℕ, Option, None, Some, refl, sym, ap}
use Rattle.std.specs.Prelude.{option_map, slice_get}
use Rattle.ae_tree.specs.declared.tree.Field.{Field}
use Rattle.ae_tree.specs.declared.tree.Class.{Class}
use Rattle.ae_tree.specs.Plain.{Code}
use Rattle.ae_rules.specs.declared.table.Member.{Member}
use Rattle.ae_rules.specs.declared.table.Member.TheVariants as member
use Rattle.ae_rules.specs.Verdict.{given}
use Rattle.ae_rules.specs.Lookups.{field_number, field_called, method_number, member_called}

abbrev first_or : Option ℕ → Option ℕ → Option Member
first_or a b = given a (option_map member.Method b) (λ n. Some (member.Field n))

-- by which of both looked-ups it was found
pub of_field : (a b : Option ℕ) (n : ℕ) → Some (member.Field n) ≡ first_or a b → a ≡ Some n
of_field (Some m) b n e = cc
of_field None (Some m) n e = absurd (cc)
of_field None None n e = absurd (cc)

of_method : (a b : Option ℕ) (n : ℕ) → Some (member.Method n) ≡ first_or a b → a ≡ None
of_method (Some m) b n e = absurd (cc)
of_method None b n e = refl

of_none : (a b : Option ℕ) → None ≡ first_or a b → a ≡ None
of_none (Some m) b e = absurd (cc)
of_none None b e = refl

abbrev by_number : Class → Option ℕ → Option Field
by_number c a = given a None (slice_get c.fields)

-- a member that is a field is the field with that number
pub member_is_a_field : (p : Code) (c : Class) (x n : ℕ) → Some (member.Field n) ≡ member_called p c x
    → slice_get c.fields n ≡ field_called c x
member_is_a_field p c x n e = sym (ap (by_number c) (of_field (field_number c x) (method_number p c x) n e))

-- where the member is a method no field has the name
pub member_is_a_method : (p : Code) (c : Class) (x n : ℕ) → Some (member.Method n) ≡ member_called p c x
    → None ≡ field_called c x
member_is_a_method p c x n e = sym (ap (by_number c) (of_method (field_number c x) (method_number p c x) n e))

-- where there is no member no field has the name
pub no_member_no_field : (p : Code) (c : Class) (x : ℕ) → None ≡ member_called p c x → None ≡ field_called c x
no_member_no_field p c x e = sym (ap (by_number c) (of_none (field_number c x) (method_number p c x) e))

pub ruleset members = (member_is_a_field, member_is_a_method, no_member_no_field)

-- ---- methods

-- a member that is a method is the method with that number
pub member_has_number : (p : Code) (c : Class) (x n : ℕ) → Some (member.Method n) ≡ member_called p c x
    → Some n ≡ method_number p c x
member_has_number p c x n e = by_both (field_number c x) (method_number p c x) e
  where
    by_both : (a b : Option ℕ) → Some (member.Method n) ≡ first_or a b → Some n ≡ b
    by_both (Some m) b e = absurd (cc)
    by_both None (Some m) e = cc
    by_both None None e = absurd (cc)

-- where there is no member no method has the name
pub no_member_no_method : (p : Code) (c : Class) (x : ℕ) → None ≡ member_called p c x → None ≡ method_number p c x
no_member_no_method p c x e = by_both (field_number c x) (method_number p c x) e
  where
    by_both : (a b : Option ℕ) → None ≡ first_or a b → None ≡ b
    by_both (Some m) b e = absurd (cc)
    by_both None (Some m) e = absurd (cc)
    by_both None None e = refl

pub ruleset member_methods = (member_has_number, no_member_no_method)
