-- A block is left: a state that fits what is known after its statements fits what is known outside, with the names of
-- the block forgotten.
use Rattle.std.proofs.Common.{◌≡◌, refl, sym, ap, ◌∙◌, subst, ℕ, Bool, true, false, if◌then◌else◌}
use Rattle.std.proofs.Common.{Option, None, Some}
use Rattle.std.specs.Prelude.{is_some, length}
use Rattle.ae_tree.specs.Names.{io}
use Rattle.ae_tree.specs.Plain.{Code}
use Rattle.ae_rules.specs.declared.held.Held.{Held}
use Rattle.ae_rules.specs.declared.held.Held.TheVariants as held
use Rattle.ae_rules.specs.Verdict.{given}
use Rattle.ae_rules.specs.Groups.{known}
use Rattle.ae_rules.specs.Context.{Local, Context, held_in, closed, hold_alike}
use Rattle.ae_rules.specs.Laws.{Keeps}
use Rattle.ae_rules.specs.BlockLaws.{ComparisonsAreExact, VisibleBelow}
use Rattle.ae_semantics.specs.Places.{Group, Here, Away, As, State, other_name, name_of, group_of}
use Rattle.ae_semantics.specs.Meaning.{forgotten}
use Rattle.ae_soundness.specs.Fits.{FitsLocal, FitsGroup, FitsContext, has_members}
use Rattle.ae_soundness.specs.Fits.{has_value, place_held}
use Rattle.ae_soundness.proofs.from_rules.GoneLemmas.{same_context}

-- ---- names of groups

-- each other name of the second state stood already in the first
abbrev pub NamesStay : State → State → Type 0
NamesStay s t = (g h : ℕ) → t.groups g ≡ Some (As h) → s.groups g ≡ Some (As h)

-- What is known outside a block leads to a group that is known outside, also after the block's statements.
pub names_lead : (p : Code) (c : Context) (s t : State) → FitsContext p c s → NamesStay s t → (g : ℕ)
    → has_members g ≡ true → known c.group g ≡ true → known c.group (name_of t g) ≡ true
names_lead p c s t z k g m o = by_group (t.groups g) refl
  where
    by_group : (q : Option Group) → t.groups g ≡ q → known c.group (other_name g q) ≡ true
    by_group None e = o
    by_group (Some (Here st)) e = o
    by_group (Some (Away cell)) e = o
    by_group (Some (As h)) e =
        let leads : name_of s g ≡ h = ap (other_name g) (k g h e) in
        subst (λ (x : ℕ). known c.group x ≡ true) leads (z.name g m o)

-- ---- what is forgotten

pub seen_so : {A : Type 0} (b : Bool) (o : Option A) → b ≡ true → (if b then o else None) ≡ o
seen_so true o e = refl
seen_so false o e = absurd (cc e)

-- What is there where a test holds is there, and the test holds
pub seen_is : {A : Type 0} (b : Bool) (o : Option A) (x : A) → (if b then o else None) ≡ Some x
    → (b ≡ true) × (o ≡ Some x)
seen_is true o x e = (refl, e)
seen_is false o x e = absurd (cc e)

none_seen : {A : Type 0} (b : Bool) (o : Option A) → o ≡ None → (if b then o else None) ≡ None
none_seen true o e = e
none_seen false o e = refl

pub not_seen : {A : Type 0} (b : Bool) (o : Option A) → b ≡ false → (if b then o else None) ≡ None
not_seen true o e = absurd (cc e)
not_seen false o e = refl

group_left : (c : Context) (t : State) (g : ℕ) → known c.group g ≡ true → known c.group (name_of t g) ≡ true
    → group_of (forgotten c t) g ≡ group_of t g
group_left c t g o k =
    let own : (forgotten c t).groups g ≡ t.groups g = seen_so (known c.group g) (t.groups g) o in
    let name : name_of (forgotten c t) g ≡ name_of t g = ap (other_name g) own in
    ap (λ (x : ℕ). (forgotten c t).groups x) name ∙ seen_so (known c.group (name_of t g)) (group_of t g) k

-- A state after a block's statements fits what is known after the block, with the block's own names forgotten.
pub left_fits : (p : Code) (c d : Context) (s t : State) → FitsContext p c s → NamesStay s t → Keeps c d
    → FitsContext p d t → FitsContext p (closed c d) (forgotten c t)
left_fits p c d s t before stay keeps z = record {
  form = λ x l e. z.form x l (seen_is (is_some (c.local x)) (d.local x) l e).1;
  local = λ x l e v. local_left x l (seen_is (is_some (c.local x)) (d.local x) l e) v;
  group = λ g q m e. subst (FitsGroup p q) (sym (group_left c t g (ap is_some e)
      (names_lead p c s t before stay g m (ap is_some e))))
      (z.group g q m (keeps.group g q e));
  name = λ g m o. subst (λ (x : ℕ). known c.group x ≡ true)
      (sym (ap (other_name g) (seen_so (known c.group g) (t.groups g) o)))
      (names_lead p c s t before stay g m o);
  log = none_seen (known c.group io) (t.groups io) z.log;
  log_known = before.log_known;
  unknown = λ g e. not_seen (known c.group g) (t.groups g) e;
}
  where
    local_left : (x : ℕ) (l : Local) → (is_some (c.local x) ≡ true) × (d.local x ≡ Some l)
        → has_value (place_held l) ≡ true → FitsLocal p (forgotten c t) x (place_held l)
    local_left x l e v =
        let r = z.local x l e.1 v in
        record { bound = r.bound; is = seen_so (is_some (c.local x)) (t.locals x) e.0 ∙ r.is; fits = r.fits }

-- ---- what is held outside

-- what is known after a block or none: outside locals with what is held of them then, and the groups as outside
pub record IsLike (c e : Context) : Type 0 where
  pub hidden : (x : ℕ) → c.local x ≡ None → e.local x ≡ None
  pub local : (x : ℕ) (l : Local) → c.local x ≡ Some l → (h : Held) × (e.local x ≡ Some (record l { held = h }))
  pub group : e.group ≡ c.group

-- What is known is like itself.
pub like_itself : (c : Context) → IsLike c c
like_itself c = record { hidden = λ x e. e; local = λ x l e. (l.held, e); group = refl }

-- What is known after a block is like what is known outside.
pub closed_like : (c d : Context) → Keeps c d → IsLike c (closed c d)
closed_like c d k = record {
  hidden = λ x e. ap (λ (o : Option Local). if is_some o then d.local x else None) e;
  local = λ x l e. ((k.local x l e).0, seen_so (is_some (c.local x)) (d.local x) (ap is_some e) ∙ (k.local x l e).1);
  group = refl;
}

-- Two that hold alike are one.
pub alike_is_same : ComparisonsAreExact → (p : Code) (c d e : Context) → VisibleBelow (length p.names) c → IsLike c d
    → IsLike c e → hold_alike p c d e ≡ true → d ≡ e
alike_is_same law p c d e v i j h = same_context d e (λ x. by_local x (c.local x) refl) (i.group ∙ sym j.group)
  where
    same : (x : ℕ) → is_some (c.local x) ≡ true → held_in d x ≡ held_in e x
    same = ((law p c v).0 d e).0 h

    held_so : (y : Context) (x : ℕ) (l : Local) → y.local x ≡ Some l → held_in y x ≡ l.held
    held_so y x l q = ap (λ (o : Option Local). given o held.None (λ (l : Local). l.held)) q

    by_local : (x : ℕ) (o : Option Local) → c.local x ≡ o → d.local x ≡ e.local x
    by_local x None q = i.hidden x q ∙ sym (j.hidden x q)
    by_local x (Some l) q =
        let a = i.local x l q in
        let b = j.local x l q in
        let both : a.0 ≡ b.0 = sym (held_so d x (record l { held = a.0 }) a.1) ∙ same x (ap is_some q)
        ∙ held_so e x (record l { held = b.0 }) b.1 in
        a.1 ∙ ap (λ (y : Held). Some (record l { held = y })) both ∙ sym b.1
