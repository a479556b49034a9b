-- Scopes as contexts.
use Rattle.std.proofs.Common.{◌≡◌, ℕ, ◌++◌, ◌∷◌, [], List, Option, None, Some, get_or}
use Rattle.std.proofs.Common.{Bool, refl, ap, ◌∙◌}
use Rattle.ae_tree.specs.declared.form.Form.{Form}
use Rattle.ae_rules.specs.declared.held.Held.{Held}
use Rattle.ae_rules.specs.declared.held.GroupPerm.{GroupPerm}
use Rattle.ae_rules.specs.Context.{Context, held_of, with_held}
use Rattle.ae_scope.specs.declared.slot.Slot.{Slot}
use Rattle.ae_scope.specs.declared.scope.Scope.{Scope}
use Rattle.ae_scope.specs.Slots.{place_in, local_in, hold_at}
use Rattle.ae_scope.specs.Scope.{context_of, with_parameter}
use Rattle.ae_scope.proofs.SlotLemmas.{added}
use Rattle.ae_scope.proofs.ChangeLemmas.{held_in_stack, nothing_held}

pub same_context : (c d : Context) → c.local ≡ d.local → c.group ≡ d.group → c ≡ d
same_context c d p q = λ i. record { local = p i; group = q i }

abbrev pub groups_in : List (Option GroupPerm) → ℕ → Option GroupPerm
groups_in gs g = get_or gs g None

pub context_declared : (s : Scope) (x : ℕ) (form : Form) (stays : Bool) (h : Held) (xs ys : List Slot)
    (gs : List (Option GroupPerm)) → local_in s.locals.items x ≡ None → xs ≡ s.locals.items → h ≡ held_of form
    → ys ≡ xs ++ record { name = x; form = form; held = h; stays = stays } ∷ [] → gs ≡ s.groups.perms.items
    → (ys ≡ s.locals.items ++ record { name = x; form = form; held = held_of form; stays = stays } ∷ [])
    × (record { local = local_in ys; group = groups_in gs } ≡ with_parameter x form stays (context_of s))
context_declared s x form stays h xs ys gs e l0 eh l g =
    let m : ys ≡ s.locals.items ++ record { name = x; form = form; held = held_of form; stays = stays } ∷ [] =
    l ∙ ap (λ (zs : List Slot). zs ++ record { name = x; form = form; held = h; stays = stays } ∷ []) l0
    ∙ ap (λ (k : Held). s.locals.items ++ record { name = x; form = form; held = k; stays = stays } ∷ []) eh in (
      m,
      same_context (record { local = local_in ys; group = groups_in gs }) (with_parameter x form stays (context_of s))
          (ap local_in m ∙ added s.locals.items (record {
            name = x;
            form = form;
            held = held_of form;
            stays =
                stays;
          }) e)
          (ap groups_in g),
    )

pub context_held : (s t : Scope) (x i : ℕ) (h : Held) → place_in s.at.items x ≡ Some i
    → t.locals.items ≡ hold_at s.locals.items i h → t.groups.perms.items ≡ s.groups.perms.items
    → context_of t ≡ with_held x h (context_of s)
context_held s t x i h e l g = same_context (context_of t) (with_held x h (context_of s)) (ap local_in l
    ∙ held_in_stack s.at.items s.locals.items x i h s.tied e) (ap groups_in g)

pub context_not_held : (s : Scope) (x : ℕ) (h : Held) → local_in s.locals.items x ≡ None
    → context_of s ≡ with_held x h (context_of s)
context_not_held s x h e = same_context (context_of s) (with_held x h (context_of s))
    (nothing_held s.locals.items x h e) refl
