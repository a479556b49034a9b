-- Facts on groups that are lent one after another.
use Rattle.std.proofs.Common.{◌≡◌, ◌∙◌, ℕ, ◌+◌, ◌<◌, nat_eq, Bool, true, false, List, [], ◌∷◌, ◌++◌, Option, None, Some}
use Rattle.std.proofs.Common.{refl, ap, sym, subst, append_assoc, take, drop, length, get_or}
use Rattle.std.specs.Prelude.{if◌then◌else◌, is_some}
use Rattle.std.specs.List.{cons_option}
use Rattle.std.proofs.lemmas.List.{drop_more, take_more}
use Rattle.std.proofs.lemmas.Bool.{eqb-true}
use Rattle.ae_tree.specs.declared.tree.GroupNeed.{GroupNeed}
use Rattle.ae_rules.specs.Verdict.{given}
use Rattle.ae_semantics.specs.Places.{Group, Here, Away, As, other_name, with}
use Rattle.ae_values.specs.declared.env.Env.{Env}
use Rattle.ae_values.specs.declared.env.Bound.{Bound}
use Rattle.ae_values.specs.declared.env.Bound.TheVariants as bound
use Rattle.ae_values.specs.Environments.{bound_under, groups_in, group_bound, running_binds, waiting_binds}
use Rattle.ae_values.specs.Shapes.{shapes}
use Rattle.ae_calls.specs.declared.params.GroupsIn.{GroupsIn}
use Rattle.ae_calls.specs.Param.{new_in}
use Rattle.ae_reads.specs.Answers.{one_name}
use Rattle.ae_frames.specs.declared.lending.Lending.{Lending}
use Rattle.ae_frames.specs.Granting.{holder_by, first_need, got_after, got, named_so, all_got, LentGroup, is_lent}
use Rattle.ae_frames.specs.Granting.{lent_from, all_lent, with_placeholders, groups_seen, IsAlike}
use Rattle.ae_frames.specs.Shown.{got_of, lents_of}
use Rattle.ae_frames.proofs.from_text.Basics.{functions_agree}
use Rattle.ae_frames.proofs.NeedLemmas.{mapped_alike}

-- before anything is lent all is as it was
pub alike_at_first : (groups : ℕ → ℕ) (cs : ℕ → Option Group) → IsAlike groups [] cs cs
alike_at_first groups cs = record { leads = λ y. refl; there = λ y. refl; same = λ y h. refl }

-- what is got for a need is what would be got of the groups as they were
got_alike : (groups : ℕ → ℕ) (es : List GroupNeed) (cs now : ℕ → Option Group) (g : ℕ) → IsAlike groups es cs now
    → got groups now es g ≡ got groups cs es g
got_alike groups es cs now g a = by_first (first_need groups es (groups g)) refl
  where
    by_first : (o : Option ℕ) → first_need groups es (groups g) ≡ o
        → got_after o (now (groups g)) ≡ got_after o (cs (groups g))
    by_first None q = a.same (groups g) q
    by_first (Some f) q = mapped_alike f (now (groups g)) (cs (groups g)) (a.there (groups g))

held_alike : (groups : ℕ → ℕ) (new : GroupsIn) (es : List GroupNeed) (cs now : ℕ → Option Group)
    → IsAlike groups es cs now → holder_by now new ≡ holder_by cs new
held_alike groups new es cs now a = functions_agree (holder_by now new) (holder_by cs new) (λ y. a.leads (new_in new y))

-- of more needs none is for a group, so none of the earlier ones is
none_earlier : (groups : ℕ → ℕ) (es : List GroupNeed) (n : GroupNeed) (y : ℕ)
    → first_need groups (es ++ n ∷ []) y ≡ None → first_need groups es y ≡ None
none_earlier groups [] n y none = refl
none_earlier groups (e ∷ es) n y none = by_test (none_earlier groups es n y) (nat_eq (groups e.group.name) y) none
  where
    by_test : (first_need groups (es ++ n ∷ []) y ≡ None → first_need groups es y ≡ None) → (t : Bool)
        → (if t then Some e.group.name else first_need groups (es ++ n ∷ []) y) ≡ None
        → (if t then Some e.group.name else first_need groups es y) ≡ None
    by_test others true q = absurd (cc)
    by_test others false q = others q

none_last : (groups : ℕ → ℕ) (es : List GroupNeed) (n : GroupNeed) (y : ℕ)
    → first_need groups (es ++ n ∷ []) y ≡ None → nat_eq (groups n.group.name) y ≡ false
none_last groups [] n y none = by_test (nat_eq (groups n.group.name) y) none
  where
    by_test : (t : Bool) → (if t then Some n.group.name else None) ≡ None → t ≡ false
    by_test true q = absurd (cc)
    by_test false q = refl
none_last groups (e ∷ es) n y none = by_test (none_last groups es n y) (nat_eq (groups e.group.name) y) none
  where
    by_test : (first_need groups (es ++ n ∷ []) y ≡ None → nat_eq (groups n.group.name) y ≡ false) → (t : Bool)
        → (if t then Some e.group.name else first_need groups (es ++ n ∷ []) y) ≡ None
        → nat_eq (groups n.group.name) y ≡ false
    by_test others true q = absurd (cc)
    by_test others false q = others q

-- nothing was lent for the need
kept_alike : (groups : ℕ → ℕ) (es : List GroupNeed) (n : GroupNeed) (cs now : ℕ → Option Group)
    → IsAlike groups es cs now → IsAlike groups (es ++ n ∷ []) cs now
kept_alike groups es n cs now a = record {
  leads = a.leads;
  there = a.there;
  same = λ y q. a.same y (none_earlier groups es n y q);
}

lent_leads : (y : ℕ) (c : Option Group) → is_lent c ≡ true → y ≡ other_name y c
lent_leads y None h = absurd (cc)
lent_leads y (Some (Here st)) h = refl
lent_leads y (Some (Away cell)) h = refl
lent_leads y (Some (As f)) h = absurd (cc)

lent_is_there : (c : Option Group) → is_lent c ≡ true → true ≡ is_some c
lent_is_there None h = absurd (cc)
lent_is_there (Some c) h = refl

abbrev placed : ℕ → (ℕ → Option Bound) → ℕ → Option Group
placed h f = groups_in one_name (with h (Some (bound.Cell 0)) f)

-- the group was lent for the need
placed_alike : (groups : ℕ → ℕ) (es : List GroupNeed) (n : GroupNeed) (cs : ℕ → Option Group) (f : ℕ → Option Bound)
    → IsAlike groups es cs (groups_in one_name f) → is_lent (cs (groups n.group.name)) ≡ true
    → IsAlike groups (es ++ n ∷ []) cs (placed (groups n.group.name) f)
placed_alike groups es n cs f a lent = record {
  leads = λ y. leads y (nat_eq h y) refl;
  there = λ y. there y (nat_eq h y) refl;
  same = λ y q. same y q (nat_eq h y) (none_last groups es n y q);
}
  where
    h : ℕ
    h = groups n.group.name

    lent_at : (y : ℕ) → nat_eq h y ≡ true → is_lent (cs y) ≡ true
    lent_at y q = subst (λ x. is_lent (cs x) ≡ true) (eqb-true h y q) lent

    leads : (y : ℕ) (t : Bool) → nat_eq h y ≡ t
        → other_name y (given (if t then Some (bound.Cell 0) else f y) None (group_bound one_name))
        ≡ other_name y (cs y)
    leads y true q = lent_leads y (cs y) (lent_at y q)
    leads y false q = a.leads y

    there : (y : ℕ) (t : Bool) → nat_eq h y ≡ t
        → is_some (given (if t then Some (bound.Cell 0) else f y) None (group_bound one_name)) ≡ is_some (cs y)
    there y true q = lent_is_there (cs y) (lent_at y q)
    there y false q = a.there y

    same : (y : ℕ) → first_need groups (es ++ n ∷ []) y ≡ None → (t : Bool) → t ≡ false
        → given (if t then Some (bound.Cell 0) else f y) None (group_bound one_name) ≡ cs y
    same y q true other = absurd (cc)
    same y q false other = a.same y (none_earlier groups es n y q)

-- after the next need
pub alike_after : (groups : ℕ → ℕ) (es : List GroupNeed) (n : GroupNeed) (cs : ℕ → Option Group) (f : ℕ → Option Bound)
    → IsAlike groups es cs (groups_in one_name f)
    → IsAlike groups (es ++ n ∷ []) cs (groups_in one_name (with_placeholders
    (cons_option (lent_from (groups n.group.name) n.group.name (got groups cs es n.group.name)) []) f))
alike_after groups es n cs f a = by_first (first_need groups es h) (cs h) refl
  where
    h : ℕ
    h = groups n.group.name

    by_first : (o : Option ℕ) (c : Option Group) → cs h ≡ c → IsAlike groups (es ++ n ∷ []) cs
        (groups_in one_name (with_placeholders (cons_option (lent_from h n.group.name (got_after o c)) []) f))
    by_first None None q = kept_alike groups es n cs (groups_in one_name f) a
    by_first None (Some (Here st)) q = placed_alike groups es n cs f a (ap is_lent q)
    by_first None (Some (Away cell)) q = placed_alike groups es n cs f a (ap is_lent q)
    by_first None (Some (As g)) q = kept_alike groups es n cs (groups_in one_name f) a
    by_first (Some x) None q = kept_alike groups es n cs (groups_in one_name f) a
    by_first (Some x) (Some c) q = kept_alike groups es n cs (groups_in one_name f) a

-- one thing or none, before others
before_others : {A : Type 0} (o : Option A) (xs : List A) → cons_option o [] ++ xs ≡ cons_option o xs
before_others None xs = refl
before_others (Some x) xs = refl

placeholders_more : (ks : List LentGroup) (ls : List LentGroup) (f : ℕ → Option Bound)
    → with_placeholders (ks ++ ls) f ≡ with_placeholders ls (with_placeholders ks f)
placeholders_more [] ls f = refl
placeholders_more (k ∷ ks) ls f = placeholders_more ks ls (with k.holder (Some (bound.Cell 0)) f)

-- what was lent for the first needs: the rest completes the whole
pub record LentSoFar (new : GroupsIn) (needs : List GroupNeed) (i : ℕ) (old e : Env) (l : Lending) : Type 0 where
  pub got : got_of l.granted.items
      ++ all_got (holder_by (groups_seen old) new) (groups_seen old) (take i needs) (drop i needs)
      ≡ all_got (holder_by (groups_seen old) new) (groups_seen old) [] needs
  pub lent : lents_of l.lent.items
      ++ all_lent (holder_by (groups_seen old) new) (groups_seen old) (take i needs) (drop i needs)
      ≡ all_lent (holder_by (groups_seen old) new) (groups_seen old) [] needs
  pub bound : bound_under e ≡ with_placeholders (lents_of l.lent.items) (bound_under old)
  pub alike : IsAlike (holder_by (groups_seen old) new) (take i needs) (groups_seen old) (groups_seen e)
  pub waiting : waiting_binds e ≡ waiting_binds old
  pub shapes_stay : shapes (running_binds e) ≡ shapes (running_binds old)

-- what is got for a need of this group, and what is lent for it, by what there was
abbrev pub got_there : GroupsIn → List GroupNeed → Env → ℕ → Option Group
got_there new es e g = got (holder_by (groups_seen e) new) (groups_seen e) es g

abbrev pub lent_there : GroupsIn → List GroupNeed → Env → ℕ → Option LentGroup
lent_there new es e g = lent_from (holder_by (groups_seen e) new g) g (got_there new es e g)

got_there_alike : (new : GroupsIn) (es : List GroupNeed) (old e : Env) (g : ℕ)
    → IsAlike (holder_by (groups_seen old) new) es (groups_seen old) (groups_seen e)
    → got_there new es e g ≡ got_there new es old g
got_there_alike new es old e g a =
    ap (λ (h : ℕ → ℕ). got h (groups_seen e) es g)
    (held_alike (holder_by (groups_seen old) new) new es (groups_seen old) (groups_seen e) a)
    ∙ got_alike (holder_by (groups_seen old) new) es (groups_seen old) (groups_seen e) g a

lent_there_alike : (new : GroupsIn) (es : List GroupNeed) (old e : Env) (g : ℕ)
    → IsAlike (holder_by (groups_seen old) new) es (groups_seen old) (groups_seen e)
    → lent_there new es e g ≡ lent_there new es old g
lent_there_alike new es old e g a =
    ap (λ (c : Option Group). lent_from (holder_by (groups_seen e) new g) g c) (got_there_alike new es old e g a)
    ∙ ap (λ (h : ℕ → ℕ). lent_from (h g) g (got_there new es old g))
    (held_alike (holder_by (groups_seen old) new) new es (groups_seen old) (groups_seen e) a)

-- one item more from the rest
pub completed : {A : Type 0} (xs ys : List A) (o : Option A) (rest all : List A) → ys ≡ xs ++ cons_option o []
    → xs ++ cons_option o rest ≡ all → ys ++ rest ≡ all
completed xs ys o rest all more h = ap (λ zs. zs ++ rest) more ∙ append_assoc xs (cons_option o []) rest
    ∙ ap (λ zs. xs ++ zs) (before_others o rest) ∙ h

-- after the next need the rest completes the whole
pub lent_one_more : (new : GroupsIn) (needs : List GroupNeed) (i : ℕ) (d : GroupNeed) (old e f : Env) (l k : Lending)
    → i < length needs → LentSoFar new needs i old e l
    → got_of k.granted.items ≡ got_of l.granted.items ++ cons_option (named_so (get_or needs i d).group.name
    (got_there new (take i needs) e (get_or needs i d).group.name)) []
    → lents_of k.lent.items ≡ lents_of l.lent.items ++ cons_option (lent_there new (take i needs) e
    (get_or needs i d).group.name) []
    → bound_under f ≡ with_placeholders (cons_option (lent_there new (take i needs) e (get_or needs i d).group.name) [])
    (bound_under e)
    → waiting_binds f ≡ waiting_binds e → shapes (running_binds f) ≡ shapes (running_binds e)
    → LentSoFar new needs (i + 1) old f k
lent_one_more new needs i d old e f l k below so more_got more_lent now_bound waits shaped =
    let cs = groups_seen old in
    let groups = holder_by cs new in
    let n = get_or needs i d in
    let es = take i needs in
    let more = take_more needs i d below in
    let split = drop_more needs i d below in
    let same_lent = lent_there_alike new es old e n.group.name so.alike in
    record {
      got = subst (λ zs. got_of k.granted.items ++ all_got groups cs zs (drop (i + 1) needs)
          ≡ all_got groups cs [] needs) (sym more)
          (completed (got_of l.granted.items) (got_of k.granted.items) (named_so n.group.name (got groups cs es
          n.group.name))
          (all_got groups cs (es ++ (n ∷ [])) (drop (i + 1) needs)) (all_got groups cs [] needs)
          (more_got ∙ ap (λ (c : Option Group). got_of l.granted.items ++ cons_option (named_so n.group.name c) [])
          (got_there_alike new es old e n.group.name so.alike))
          (subst (λ zs. got_of l.granted.items ++ all_got groups cs es zs ≡ all_got groups cs [] needs) split so.got));
      lent = subst (λ zs. lents_of k.lent.items ++ all_lent groups cs zs (drop (i + 1) needs)
          ≡ all_lent groups cs [] needs) (sym more)
          (completed (lents_of l.lent.items) (lents_of k.lent.items) (lent_there new es old n.group.name)
          (all_lent groups cs (es ++ (n ∷ [])) (drop (i + 1) needs)) (all_lent groups cs [] needs)
          (more_lent ∙ ap (λ (o : Option LentGroup). lents_of l.lent.items ++ cons_option o []) same_lent)
          (subst (λ zs. lents_of l.lent.items ++ all_lent groups cs es zs
          ≡ all_lent groups cs [] needs) split so.lent));
      bound = now_bound
          ∙ ap (with_placeholders (cons_option (lent_there new es e n.group.name) [])) so.bound
          ∙ sym (placeholders_more (lents_of l.lent.items) (cons_option (lent_there new es e n.group.name) [])
          (bound_under old))
          ∙ ap (λ zs. with_placeholders zs (bound_under old)) (sym more_lent);
      alike = subst (λ zs. IsAlike groups zs cs (groups_seen f)) (sym more)
          (subst (λ (b : ℕ → Option Bound). IsAlike groups (es ++ n ∷ []) cs (groups_in one_name b))
          (sym (now_bound ∙ ap (λ (o : Option LentGroup). with_placeholders (cons_option o []) (bound_under e))
          same_lent))
          (alike_after groups es n cs (bound_under e) so.alike));
      waiting = waits ∙ so.waiting;
      shapes_stay = shaped ∙ so.shapes_stay;
    }

-- a placeholder is put where the group itself is got
placed_by_test : (t : Bool) (h g : ℕ) (f : ℕ → Option Bound) → (if t then with h (Some (bound.Cell 0)) f else f)
    ≡ with_placeholders (cons_option (if t then Some (record { group = g; holder = h }) else None) []) f
placed_by_test true h g f = refl
placed_by_test false h g f = refl

-- a placeholder stands where a group was lent
pub lent_is_placed : (new : GroupsIn) (es : List GroupNeed) (e : Env) (g h : ℕ) (o : Option ℕ) (f : ℕ → Option Bound)
    → h ≡ holder_by (groups_seen e) new g → o ≡ first_need (holder_by (groups_seen e) new) es h
    → f ≡ (if is_lent (got_after o (groups_seen e h)) then with h (Some (bound.Cell 0)) (bound_under e) else
    bound_under e)
    → f ≡ with_placeholders (cons_option (lent_there new es e g) []) (bound_under e)
lent_is_placed new es e g h o f at by is = is
    ∙ placed_by_test (is_lent (got_after o (groups_seen e h))) h g (bound_under e)
    ∙ ap (λ (x : Option ℕ). with_placeholders (cons_option (lent_from h g (got_after x (groups_seen e h))) [])
    (bound_under e)) by
    ∙ ap (λ (x : ℕ). with_placeholders (cons_option (lent_from x g
    (got_after (first_need (holder_by (groups_seen e) new) es x) (groups_seen e x))) []) (bound_under e)) at
