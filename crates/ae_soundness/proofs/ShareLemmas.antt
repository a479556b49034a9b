-- A state keeps fitting where an object becomes immutable, or a member of a group.
use Rattle.std.proofs.Common.{◌≡◌, ◌⊎◌, inl, inr, refl, sym, ap, ◌∙◌, subst, ℕ, zero, suc, true, ◌&&◌}
use Rattle.std.proofs.Common.{[], ◌∷◌, ◌++◌, Option, Some}
use Rattle.std.specs.Prelude.{not, length, ⊤}
use Rattle.std.specs.List.{list_all}
use Rattle.std.proofs.lemmas.Bool.{and_from}
use Rattle.ae_text.specs.declared.refusal.Rule.TheVariants as rule
use Rattle.ae_tree.specs.declared.tree.NameAt.{NameAt}
use Rattle.ae_tree.specs.declared.form.Perm.{Perm}
use Rattle.ae_tree.specs.declared.form.Perm.TheVariants as perm
use Rattle.ae_tree.specs.declared.form.Kind.{Kind}
use Rattle.ae_tree.specs.declared.form.Form.{Form}
use Rattle.ae_tree.specs.declared.form.Form.TheVariants as f
use Rattle.ae_tree.specs.Plain.{Code}
use Rattle.ae_rules.specs.declared.held.Held.{Held}
use Rattle.ae_rules.specs.declared.held.Held.TheVariants as held
use Rattle.ae_rules.specs.Verdict.{Holds, ◌>>◌, require, found}
use Rattle.ae_rules.specs.Forms.{is_object}
use Rattle.ae_rules.specs.Lookups.{groups_of}
use Rattle.ae_rules.specs.Types.{is_group}
use Rattle.ae_rules.specs.Groups.{known, opens, group_access}
use Rattle.ae_rules.specs.Context.{Local, Context, holds_nothing, is_held_alone, with_held}
use Rattle.ae_rules.specs.Statements.{holds_alone, judge_freeze, judge_share}
use Rattle.ae_semantics.specs.Values.{Val, OfInt, OfBool, Null, Owned, Member, Tree, Store, fits_object}
use Rattle.ae_semantics.specs.Places.{Fine, ◌>>=◌, there, Here, Bound, State, group_of, store_of, with_store}
use Rattle.ae_semantics.specs.Places.{with_bound}
use Rattle.ae_semantics.specs.Meaning.{with_perm, frozen, shared_value, shares_into}
use Rattle.ae_soundness.specs.Fits.{AreWhole, IsWhole, IsWholeTree, FitsPermission, FitsPlace, FitsLocal}
use Rattle.ae_soundness.specs.Fits.{HasMembers, FitsContext}
use Rattle.ae_soundness.specs.Fits.{HoldsNoMember, has_members, perm_has_members, place_held, has_value}
use Rattle.ae_soundness.proofs.IntoLemmas.{as_unique, no_member}
use Rattle.ae_soundness.proofs.GroupLemmas.{group_has_members}
use Rattle.ae_soundness.proofs.LocalLemmas.{HasBound, FitsThen, holding, held_changed}
use Rattle.ae_soundness.proofs.LikeLemmas.{opened_members}
use Rattle.ae_soundness.proofs.StoreLemmas.{members_here, store_changed}
use Rattle.ae_soundness.proofs.OutcomeLemmas.{Comes}
use Rattle.ae_soundness.proofs.from_rules.PathLemmas.{first_holds}
use Rattle.ae_soundness.proofs.from_rules.SeenLemmas.{found_is, required}
use Rattle.ae_soundness.proofs.from_rules.ShapeLemmas.{same_held_is}
use Rattle.ae_soundness.proofs.from_text.Basics.{second_of_both, option_holds_one}

-- ---- a local that holds an object alone

-- a local that is an object, all of which it holds
record HoldsAll (c : Context) (x : ℕ) : Type 0 where
  local : Local
  is : c.local x ≡ Some local
  object : is_object local.form ≡ true
  held : local.held ≡ held.Unique

holds_all : (c : Context) (x : NameAt) (u : ⊤) → holds_alone c x ≡ Holds u → HoldsAll c x.name
holds_all c x u e =
    let a = first_holds (found (c.local x.name) rule.UnknownName x.at) _ u e in
    let l : Local = a.0 in
    let b = first_holds (require (is_object l.form) rule.TypeMismatch x.at)
    (λ _. require (not (holds_nothing l.held)) rule.NoPermission x.at
    >> require (is_held_alone l.held) rule.NeedsUnique x.at) u a.2 in
    let d = first_holds (require (not (holds_nothing l.held)) rule.NoPermission x.at)
    (λ _. require (is_held_alone l.held) rule.NeedsUnique x.at) u b.2 in
    record {
      local = l;
      is = found_is (c.local x.name) rule.UnknownName x.at l a.1;
      object = required (is_object l.form) rule.TypeMismatch x.at b.0 b.1;
      held = sym (same_held_is held.Unique l.held (required (is_held_alone l.held) rule.NeedsUnique x.at u d.2));
    }

held_has_value : (l : Local) → l.held ≡ held.Unique → has_value (place_held l) ≡ true
held_has_value l e = ap (λ (h : Held). not (holds_nothing h && is_object l.form)) e

-- what stands in it
bound_alone : (p : Code) (c : Context) (s : State) (x : ℕ) → FitsContext p c s → (a : HoldsAll c x)
    → FitsLocal p s x (place_held a.local)
bound_alone p c s x z a = z.local x a.local a.is (held_has_value a.local a.held)

one_fits_then : (p : Code) (c : Context) (x : ℕ) (h : Held) (o : Option Bound) (l : Local) → c.local x ≡ Some l
    → HasBound p (holding h l) o → FitsThen p c x h o
one_fits_then p c x h o l e b k i v =
    subst (λ (a : Local). HasBound p (holding h a) o) (option_holds_one (c.local x) l k e i) b

unique_no_member : (h : Held) → h ≡ held.Unique → HoldsNoMember h
unique_no_member h e = subst (λ (x : Held). HoldsNoMember x) (sym e) (λ g i. absurd (cc i))

-- an object that is held alone is no member
alone_fits : (p : Code) (r : Perm) (l : Kind) (v : Val) (h : Held) → h ≡ held.Unique → FitsPermission r h
    → fits_object p r l v ≡ true → fits_object p perm.Unique l v ≡ true
alone_fits p r l v h e i b = sym (as_unique p r l v (no_member r h i (unique_no_member h e))) ∙ b

-- ---- `freeze`

frozen_fits : (p : Code) (t : Form) (h : Held) (now : Form) (v : Val) → is_object t ≡ true → h ≡ held.Unique
    → FitsPlace p (record { form = t; held = h }) now v
    → FitsPlace p (record { form = t; held = held.Immutable }) (with_perm perm.Immutable now) v
frozen_fits p f.Int h now v o e z = absurd (cc o)
frozen_fits p f.Bool h now v o e z = absurd (cc o)
frozen_fits p (f.Object q k) h f.Int v o e z = absurd z.form
frozen_fits p (f.Object q k) h f.Bool v o e z = absurd z.form
frozen_fits p (f.Object q k) h (f.Object r l) v o e z = record {
  form = z.form;
  held = λ g i. absurd (cc i);
  members = second_of_both (perm_has_members r) (list_all has_members (groups_of l)) z.members;
  value = (
    as_unique p perm.Immutable l v (λ g i. absurd (cc i)) ∙ alone_fits p r l v h e z.held z.value.0,
    z.value.1,
  );
}

-- A judged `freeze` keeps fitting.
pub freeze_fits : (p : Code) (c d : Context) (s : State) (x : NameAt) → FitsContext p c s
    → judge_freeze c x ≡ Holds d → Comes (FitsContext p d) (frozen x.name s)
freeze_fits p c d s x z e =
    let h = first_holds (holds_alone c x) (λ _. Holds (with_held x.name held.Immutable c)) d e in
    let a : HoldsAll c x.name = holds_all c x h.0 h.1 in
    let b : FitsLocal p s x.name (place_held a.local) = bound_alone p c s x.name z a in
    let now : Bound = record { form = with_perm perm.Immutable b.bound.form; value = b.bound.value } in
    let same : with_held x.name held.Immutable c ≡ d = cc (h.2) in
    subst (λ (y : Context). Comes (FitsContext p y) (frozen x.name s)) same
    (subst
    (λ (o : Option Bound). Comes (FitsContext p (with_held x.name held.Immutable c))
    (there o >>= λ b. Fine (with_bound x.name (Some (record b { form = with_perm perm.Immutable b.form })) s)))
    (sym b.is)
    (held_changed p c s x.name held.Immutable (Some now) z
    (one_fits_then p c x.name held.Immutable (Some now) a.local a.is
    (now, refl, frozen_fits p a.local.form a.local.held b.bound.form b.bound.value a.object a.held b.fits))))

-- ---- `share`

-- a value of a shared form
abbrev IsShared : Code → ℕ → Val → Type 0
IsShared p g v = ((l : Kind) → fits_object p (perm.Shared g) l v ≡ true) × IsWhole p v

shared_fits : (p : Code) (g : ℕ) (t : Form) (h : Held) (now : Form) (v w : Val) → has_members g ≡ true
    → is_object t ≡ true → FitsPlace p (record { form = t; held = h }) now v → IsShared p g w
    → FitsPlace p (record { form = t; held = held.Shared g }) (with_perm (perm.Shared g) now) w
shared_fits p g f.Int h now v w m o z i = absurd (cc o)
shared_fits p g f.Bool h now v w m o z i = absurd (cc o)
shared_fits p g (f.Object q k) h f.Int v w m o z i = absurd z.form
shared_fits p g (f.Object q k) h f.Bool v w m o z i = absurd z.form
shared_fits p g (f.Object q k) h (f.Object r l) v w m o z i = record {
  form = z.form;
  held = refl;
  members = and_from (has_members g) (list_all has_members (groups_of l)) m
      (second_of_both (perm_has_members r) (list_all has_members (groups_of l)) z.members);
  value = (i.0 l, i.1);
}

-- an object that stands here, or null
abbrev IsOwned : Val → Type 0
IsOwned v = ((t : Tree) × (v ≡ Owned t)) ⊎ (v ≡ Null)

owned_or_null : (p : Code) (l : Kind) (v : Val) → fits_object p perm.Unique l v ≡ true → IsOwned v
owned_or_null p l (OfInt n) e = absurd (cc e)
owned_or_null p l (OfBool b) e = absurd (cc e)
owned_or_null p l Null e = inr refl
owned_or_null p l (Owned t) e = inl (t, refl)
owned_or_null p l (Member n) e = absurd (cc e)

alone_owned : (p : Code) (t : Form) (h : Held) (now : Form) (v : Val) → is_object t ≡ true → h ≡ held.Unique
    → FitsPlace p (record { form = t; held = h }) now v → IsOwned v
alone_owned p f.Int h now v o e z = absurd (cc o)
alone_owned p f.Bool h now v o e z = absurd (cc o)
alone_owned p (f.Object q k) h f.Int v o e z = absurd z.form
alone_owned p (f.Object q k) h f.Bool v o e z = absurd z.form
alone_owned p (f.Object q k) h (f.Object r l) v o e z = owned_or_null p l v
    (alone_fits p r l v h e z.held z.value.0)

-- With one more whole member the members are whole.
added_whole : (p : Code) (st : Store) (t : Tree) → IsWholeTree p t → AreWhole p st → AreWhole p (st ++ t ∷ [])
added_whole p [] t i w zero u e = subst (λ (x : Tree). IsWholeTree p x) (cc e) i
added_whole p [] t i w (suc n) u e = absurd (cc e)
added_whole p (x ∷ st) t i w zero u e = w zero u e
added_whole p (x ∷ st) t i w (suc n) u e = added_whole p st t i (λ m y j. w (suc m) y j) n u e

share_value : (p : Code) (c : Context) (s : State) (x g : ℕ) → FitsContext p c s → (a : HoldsAll c x)
    (m : HasMembers p s g) → has_members g ≡ true → (b : Bound)
    → FitsPlace p (place_held a.local) b.form b.value → IsOwned b.value
    → Comes (FitsContext p (with_held x (held.Shared g) c)) (shared_value x g b b.value s m.store)
share_value p c s x g z a m h b i (inl r) =
    let now : Bound = record { form = with_perm (perm.Shared g) b.form; value = Member (length m.store) } in
    let st : Store = m.store ++ r.0 ∷ [] in
    let fits : FitsPlace p (place_held (holding (held.Shared g) a.local)) now.form now.value
    = shared_fits p g a.local.form a.local.held b.form b.value (Member (length m.store)) h a.object i (λ l. refl, tt) in
    let whole : IsWholeTree p r.0 = subst (λ (v : Val). IsWhole p v) r.1 i.value.1 in
    subst (λ (v : Val). Comes (FitsContext p (with_held x (held.Shared g) c)) (shared_value x g b v s m.store))
    (sym r.1)
    (held_changed p c (with_store g (Some (Here st)) s) x (held.Shared g) (Some now)
    (store_changed p c s g m.store st z (members_here (group_of s g) m.store m.is) (added_whole p m.store r.0 whole))
    (one_fits_then p c x (held.Shared g) (Some now) a.local a.is (now, refl, fits)))
share_value p c s x g z a m h b i (inr r) =
    let now : Bound = record { form = with_perm (perm.Shared g) b.form; value = Null } in
    let fits : FitsPlace p (place_held (holding (held.Shared g) a.local)) now.form now.value
    = shared_fits p g a.local.form a.local.held b.form b.value Null h a.object i (λ l. refl, tt) in
    subst (λ (v : Val). Comes (FitsContext p (with_held x (held.Shared g) c)) (shared_value x g b v s m.store)) (sym r)
    (held_changed p c s x (held.Shared g) (Some now) z
    (one_fits_then p c x (held.Shared g) (Some now) a.local a.is (now, refl, fits)))

-- A judged `share` keeps fitting.
pub share_fits : (p : Code) (c d : Context) (s : State) (x g : NameAt) → FitsContext p c s
    → judge_share c x g ≡ Holds d → Comes (FitsContext p d) (shares_into x.name g.name s)
share_fits p c d s x g z e =
    let h = first_holds (holds_alone c x)
    (λ _. is_group (known c.group) g >> group_access c.group g.name g.at
    >> Holds (with_held x.name (held.Shared g.name) c)) d e in
    let i = first_holds (is_group (known c.group) g)
    (λ _. group_access c.group g.name g.at >> Holds (with_held x.name (held.Shared g.name) c)) d h.2 in
    let j = first_holds (group_access c.group g.name g.at)
    (λ _. Holds (with_held x.name (held.Shared g.name) c)) d i.2 in
    let named : has_members g.name ≡ true = group_has_members (known c.group) g i.0 i.1 in
    let m : HasMembers p s g.name = opened_members p c s g.name z named
    (required (opens c.group g.name) rule.NeedsGroup g.at j.0 j.1) in
    let a : HoldsAll c x.name = holds_all c x h.0 h.1 in
    let b : FitsLocal p s x.name (place_held a.local) = bound_alone p c s x.name z a in
    let same : with_held x.name (held.Shared g.name) c ≡ d = cc (j.2) in
    let owned : IsOwned b.bound.value = alone_owned p a.local.form a.local.held b.bound.form b.bound.value a.object
    a.held b.fits in
    subst (λ (y : Context). Comes (FitsContext p y) (shares_into x.name g.name s)) same
    (subst
    (λ (o : Option Bound). Comes (FitsContext p (with_held x.name (held.Shared g.name) c))
    (there o >>= λ b. store_of s g.name >>= shared_value x.name g.name b b.value s))
    (sym b.is)
    (subst
    (λ (o : Option Store). Comes (FitsContext p (with_held x.name (held.Shared g.name) c))
    (there o >>= shared_value x.name g.name b.bound b.bound.value s))
    (sym m.is)
    (share_value p c s x.name g.name z a m named b.bound b.fits owned)))
