-- What is done inside a running atomic block is the same for every observer, and asks nothing.
use Rattle.ae_rules.specs.Edges.{Uses}
use Rattle.std.proofs.Common.{◌≡◌, refl, ap, sym, subst, ◌∙◌, ℕ, suc, nat_eq, Bool, true, false, if◌then◌else◌, List}
use Rattle.std.proofs.Common.{[], ◌∷◌, ◌++◌, Option, None, Some}
use Rattle.std.specs.Prelude.{option_map}
use Rattle.ae_text.specs.declared.refusal.Spot.{Spot}
use Rattle.ae_tree.specs.declared.tree.NameAt.{NameAt}
use Rattle.ae_tree.specs.Names.{io}
use Rattle.ae_tree.specs.Plain.{Invocation, Lines, Locks, Code}
use Rattle.ae_rules.specs.Verdict as rules
use Rattle.ae_semantics.specs.Values.{Store}
use Rattle.ae_semantics.specs.Places.{Outcome, Fine, Traps, Lacks, CellName, Group, Here, Away, As, State}
use Rattle.ae_semantics.specs.Places.{with_store, group_of, name_of, bind}
use Rattle.ae_semantics.specs.Expressions.{value}
use Rattle.ae_semantics.specs.Contexts.{after}
use Rattle.ae_semantics.specs.declared.report.Ending.TheVariants as ends
use Rattle.ae_semantics.specs.Observations.{Image, Carried, Ask, Mark, Ran, Turned, Entered, Asked, Used, Stopped}
use Rattle.ae_semantics.specs.Observations.{Seen, Notes, Observer}
use Rattle.ae_semantics.specs.Runs.{Run, Went, Ends, Stops, Act, and_then, outcome_given, marked, logged, deeper}
use Rattle.ae_semantics.specs.Runs.{Where, whole_block, splitting, locking, stopping}
use Rattle.ae_semantics.specs.Calls.{CallFrame, enter, leave, without_moved}
use Rattle.ae_semantics.specs.Blocks.{cell_in, cell_at, values_in, out_fits, with_out, with_values, store_out}
use Rattle.ae_semantics.specs.Blocks.{pieces_in, else_uses}
use Rattle.ae_semantics.specs.Meaning.{assigned, does, forgotten, made, right_moved, block, below}
use Rattle.ae_semantics.specs.Means.{Asking, asks_in, in_order, source_machine}
use Rattle.ae_semantics.specs.Gathering.{carry, carried}
use Rattle.ae_semantics.specs.Atom.{Located, located, block_here, begins_with, begins_after, atomed, atom_at, atom}
use Rattle.ae_semantics.specs.Laws.{AtomAsksNothing}
use Rattle.ae_semantics.proofs.Related.{Stretch, Quiet, From, MayTell, Both, answered_by, Relation, Does, Forms}
use Rattle.ae_semantics.proofs.Related.{Link, Passes, IsBlock, IsCall, IsLock, machine, related_block, related_below}
use Rattle.ae_semantics.proofs.Inside.{AllFine, is_fine, IsNear, AllNear, near_if, near_with, near_moved}
use Rattle.ae_semantics.proofs.Inside.{near_forgotten, near_bind, near_effect, NearBehind, near_made, EntersNear}
use Rattle.ae_semantics.proofs.Inside.{near_enter, near_leave}

-- a mark that tells of no question adds none
asks_kept : (ms : List Mark) (m : Mark) → MayTell m ⊥ → asks_in (ms ++ (m ∷ [])) ≡ asks_in ms
asks_kept [] (Ran q at) h = refl
asks_kept [] (Turned q t) h = refl
asks_kept [] (Entered c image) h = refl
asks_kept [] (Asked c ask) h = absurd h
asks_kept [] (Used from) h = refl
asks_kept [] (Stopped q e) h = refl
asks_kept (Ran q at ∷ ms) m h = asks_kept ms m h
asks_kept (Turned q t ∷ ms) m h = asks_kept ms m h
asks_kept (Entered c image ∷ ms) m h = asks_kept ms m h
asks_kept (Asked c ask ∷ ms) m h = ap (λ (xs : List Asking). record { cell = c; ask = ask } ∷ xs) (asks_kept ms m h)
asks_kept (Used from ∷ ms) m h = asks_kept ms m h
asks_kept (Stopped q e ∷ ms) m h = asks_kept ms m h

near_no_cell : (o : Option Group) → IsNear o → cell_in o ≡ None
near_no_cell None h = refl
near_no_cell (Some (Here st)) h = refl
near_no_cell (Some (Away c)) h = absurd h
near_no_cell (Some (As g)) h = refl

near_here : (o : Option Store) → IsNear (option_map Here o)
near_here None = tt
near_here (Some st) = tt

near_values : (u : Uses) (z : Carried) (s : State) → AllNear s → AllNear (with_values u z s)
near_values u z s h g = near_if (store_out u s g) (option_map Here (z.stores g)) (s.groups g) (near_here (z.stores g))
    (h g)

-- no atomic block of this group asks
no_cell : {V : Type 0} (g : ℕ) (s : State) (n : Notes V) → AllNear s → n.cell ≡ None → (c : CellName)
    → cell_at g s n ≡ Some c → ⊥
no_cell g s n h e c = by_name (nat_eq io g)
  where
    by_name : (b : Bool) → (if b then n.cell else cell_in (group_of s g)) ≡ Some c → ⊥
    by_name true d = absurd (cc (e, d))
    by_name false d = absurd (cc (near_no_cell (group_of s g) (h (name_of s g)), d))

module _ {V W : Type 0} (w : W) where
  -- what comes to the same for the other observer, with the questions that there were
  abbrev Still : List Asking → Run V → Type 0
  Still asked (Went s n) = AllNear s × (n.cell ≡ None) × (asks_in n.marks ≡ asked)
  Still asked (Ends e n) = asks_in n.marks ≡ asked
  Still asked (Stops n) = asks_in n.marks ≡ asked

  abbrev Alike : List Asking → Run V → Run W → Type 0
  Alike asked r q = (q ≡ carried (λ v. w) r) × Still asked r

  -- both begin in a state in which no group is away, with the same notes but for the observer
  record IsInside (x : Both V W) : Type 0 where
    same : x.s ≡ x.t
    near : AllNear x.s
    cell : x.n.cell ≡ None
    notes : x.m ≡ carry (λ v. w) x.n

  abbrev inside : Relation V W
  inside = record {
    World = Unit {0};
    Start = λ k x. IsInside x;
    Rel = λ k l c x r q. Alike (asks_in x.n.marks) r q;
    One = λ k l here at a. here.inside ≡ true;
    Many = λ k l here all j y. here.inside ≡ true;
    Asks = λ k. ⊥;
    Bars = λ k xs ys. xs ≡ ys;
  }

  abbrev AreAlike : Act V → Act W → Type 0
  AreAlike f g = (s : State) (n : Notes V) (m : Notes W) → AllNear s → n.cell ≡ None → m ≡ carry (λ v. w) n
      → Alike (asks_in n.marks) (f s n) (g s m)

  acts : (c : Stretch) (f : Act V) (g : Act W) → AreAlike f g → Does inside tt tt c f g
  acts c f g h x i = subst (λ (t : State). Alike (asks_in x.n.marks) (f x.s x.n) (g t x.m)) i.same
      (h x.s x.n x.m i.near i.cell i.notes)

  from_acts : (c : Stretch) (f : Act V) (g : Act W) → Does inside tt tt c f g → AreAlike f g
  from_acts c f g h s n m a b i = h (record { s = s; n = n; t = s; m = m })
      (record { same = refl; near = a; cell = b; notes = i })

  alike_given : {A : Type 0} (P : A → Type 0) (o : Outcome A) (at : Spot) (n : Notes V) (m : Notes W)
      → m ≡ carry (λ v. w) n → AllFine P o → (f : A → Run V) (g : A → Run W)
      → ((x : A) → P x → Alike (asks_in n.marks) (f x) (g x)) → Alike (asks_in n.marks) (outcome_given o at n f)
      (outcome_given o at m g)
  alike_given P (Fine x) at n m i h f g k = k x h
  alike_given P (Traps code) at n m i h f g k = (ap (λ (y : Notes W). Ends (ends.Trap code at) y) i, refl)
  alike_given P Lacks at n m i h f g k = (ap (λ (y : Notes W). Stops y) i, refl)

  alike_then : (asked : List Asking) (r : Run V) (q : Run W) → Alike asked r q → (f : Act V) (g : Act W)
      → AreAlike f g → Alike asked (and_then r f) (and_then q g)
  alike_then asked (Went s n) q h f g k = subst (λ (x : Run W). Alike asked (f s n) (and_then x g)) (sym h.0)
      (subst (λ (xs : List Asking). Alike xs (f s n) (g s (carry (λ v. w) n))) h.1.2
      (k s n (carry (λ v. w) n) h.1.0 h.1.1 refl))
  alike_then asked (Ends e n) q h f g k = (ap (λ (x : Run W). and_then x g) h.0, h.1)
  alike_then asked (Stops n) q h f g k = (ap (λ (x : Run W). and_then x g) h.0, h.1)

  alike_went : (t : State → State) → ((s : State) → AllNear s → AllNear (t s))
      → AreAlike (λ s n. Went (t s) n) (λ s n. Went (t s) n)
  alike_went t k s n m a b i = (ap (λ (y : Notes W). Went (t s) y) i, (k s a, b, refl))

  alike_does : (at : Spot) (f : State → Outcome State) → ((s : State) → AllNear s → AllFine AllNear (f s))
      → AreAlike (λ s n. does at n (f s)) (λ s n. does at n (f s))
  alike_does at f k s n m a b i = alike_given AllNear (f s) at n m i (k s a) (λ t. Went t n) (λ t. Went t m)
      (λ t c. (ap (λ (y : Notes W). Went t y) i, (c, b, refl)))

  passes : Passes inside tt tt
  passes = acts Quiet (λ s n. Went s n) (λ s n. Went s n) (alike_went (λ s. s) (λ s a. a))

  is_block : (here : Where) → here.inside ≡ true → (y : Lines) → IsBlock inside tt tt here y
  is_block here h y = (
    tt,
    h,
    acts Quiet (λ s n. Went (forgotten here.context s) n)
        (λ s n. Went (forgotten here.context s) n) (alike_went (forgotten here.context) (near_forgotten here.context)),
  )

  enters_near : (p : Code) (here : Where) (i : Invocation) (x : Both V W) → IsInside x → (f : CallFrame)
      → enter p here i x.s ≡ Fine f → EntersNear here f
  enters_near p here i x j f e = is_fine (EntersNear here) (enter p here i x.s) f (near_enter p here i x.s j.near) e

  is_call : (p : Code) (here : Where) → here.inside ≡ true → (at : Spot) (i : Invocation)
      → IsCall inside p tt tt here at i
  is_call p here h at i = record {
    enters = λ x j. ap (λ (s : State). enter p here i s) j.same;
    inner = λ x j f e. tt;
    outer = λ x j f e. tt;
    starts = λ x j f e. record {
      same = refl;
      near = (enters_near p here i x j f e).near;
      cell = j.cell;
      notes =
          j.notes;
    };
    body = λ x j f e. is_block f.here ((enters_near p here i x j f e).inside ∙ h) f.callee.method.body;
    leaves = λ k x j f e r q y go ho g.
        subst (λ (t : State). Alike (asks_in x.n.marks)
        (and_then r (λ t n. outcome_given (leave f i x.s t) at n (λ y. go t.result y n)))
        (and_then q (λ z n. outcome_given (leave f i t z) at n (λ y. ho z.result y n)))) j.same
        (alike_then (asks_in x.n.marks) r q y (λ t n. outcome_given (leave f i x.s t) at n (λ y. go t.result y n))
        (λ t n. outcome_given (leave f i x.s t) at n (λ y. ho t.result y n))
        (λ t n m a b d. alike_given AllNear (leave f i x.s t) at n m d (near_leave f i x.s t j.near a)
        (λ y. go t.result y n) (λ y. ho t.result y m)
        (λ y c. from_acts Quiet (go t.result) (ho t.result) (g t.result) y n m c b d)));
  }

  is_lock : (p : Code) (here : Where) → here.inside ≡ true → (at : Spot) (g : NameAt) (number : ℕ) (y : Lines)
      → IsLock inside p tt tt here at g number y
  is_lock p here h at g number y =
      let us : Uses = else_uses p g.name (whole_block y (locking g here)) in
      record {
        cells = λ x i. ap (λ (s : State). cell_at g.name s x.n) i.same
            ∙ ap (λ (z : Option CellName). cell_at g.name x.t (record x.n { cell = z }))
            (sym (ap (λ (k : Notes W). k.cell) i.notes));
        asks = λ x i c e. no_cell g.name x.s x.n i.near i.cell c e;
        block = is_block (locking g here) h y;
        ins = λ x i. ap (λ (s : State). values_in (else_uses p g.name (whole_block y (locking g here))) s) i.same;
        fits = λ x i z. ap (λ (s : State). out_fits p (else_uses p g.name (whole_block y (locking g here)))
            (after p here.method at (Locks g number y) here.context) s z) i.same;
        gives = λ z x i f from v u j. acts Quiet (with_out us z) (with_out us z)
            (λ s n m a b d. (
              ap (λ (k : Notes W). Went (with_values us z s)
                  (record k { log = k.log ++ pieces_in z.pieces })) d,
              (near_values us z s a, b, refl),
            ))
            (answered_by from v u x) j;
      }

  forms : (p : Code) → Forms inside p
  forms p = record {
    makes = λ k l here at a h e y z r. acts Quiet
        (λ s n. outcome_given (made p e s) at n (λ r. assigned at y z r.0 (without_moved (right_moved p z e) r.1) n))
        (λ s n. outcome_given (made p e s) at n
        (λ r. assigned at y z r.0 (without_moved (right_moved p z e) r.1) n))
        (λ s n m a b i. alike_given NearBehind (made p e s) at n m i (near_made p e s a)
        (λ r. assigned at y z r.0 (without_moved (right_moved p z e) r.1) n)
        (λ r. assigned at y z r.0 (without_moved (right_moved p z e) r.1) m)
        (λ r c. alike_does at (bind y z r.0) (near_bind y z r.0) (without_moved (right_moved p z e) r.1) n m
        (near_moved (right_moved p z e) r.1 c) b i));
    effects = λ k l here at a h f e. acts Quiet (λ s n. does at n (f s)) (λ s n. does at n (f s))
        (alike_does at f (near_effect p here a f e));
    groups = λ k l here at g h. acts Quiet (λ s n. Went (with_store g.name (Some (Here [])) s) n)
        (λ s n. Went (with_store g.name (Some (Here [])) s) n)
        (alike_went (with_store g.name (Some (Here []))) (λ s a. near_with g.name (Some (Here [])) s tt a));
    prints = λ k l here at a h t y. acts Quiet (λ s n. Went s (logged y n)) (λ s n. Went s (logged y n))
        (λ s n m a b i. (ap (λ (k : Notes W). Went s (logged y k)) i, (a, b, refl)));
    tests = λ k l here at a h e t x i. ap (λ (s : State). value p s e) i.same;
    passes = λ k l here at e h. passes;
    called = λ k l here at i h. (tt, is_call p here h at i, passes);
    called_for = λ k l here at a h i y z t. (
      tt,
      is_call p here h at i,
      λ v. acts Quiet (assigned at y z v) (assigned at y z v)
          (alike_does at (bind y z v) (near_bind y z v)),
    );
    chooses = λ k l here at e nb b h. (is_block (deeper 0 here) h b, passes);
    chooses_else = λ k l here at e nb b nc y h. (is_block (deeper 0 here) h b, is_block (deeper 1 here) h y);
    repeats = λ k l here at e nb b h. (
      tt,
      record { starts = λ x i. i; ends = λ a x r q i. i },
      record {
        tested = λ x i. ap (λ (s : State). value p s e) i.same;
        turn =
            λ t. is_block (deeper t here) h b;
        passes = passes;
      },
    );
    splits = λ k l here at gs nb b h t. absurd (cc (h, t));
    joins = λ k l here at gs nb b h t. is_block (splitting gs here) h b;
    locks = λ k l here at g nb b h. is_lock p here h at g nb b;
  }

  told_of : (ms : List Mark) (m : Mark) → MayTell m ⊥ → (r : Run V) (q : Run W) → Alike (asks_in (ms ++ (m ∷ []))) r q
      → Alike (asks_in ms) r q
  told_of ms m f r q h = subst (λ (xs : List Asking). Alike xs r q) (asks_kept ms m f) h

  marked_inside : (m : Mark) (x : Both V W) → IsInside x → IsInside (record x { n = marked m x.n; m = marked m x.m })
  marked_inside m x i = record { same = i.same; near = i.near; cell = i.cell; notes = ap (marked m) i.notes }

  link : (p : Code) (o : Observer V) (u : Observer W) → Link inside p o u stopping stopping
  link p o u = record {
    ends = λ k l e. acts Quiet (λ s n. Ends e n) (λ s n. Ends e n)
        (λ s n m a b i. (ap (λ (y : Notes W). Ends e y) i, refl));
    stops = λ k l. acts Quiet (λ s n. Stops n) (λ s n. Stops n)
        (λ s n m a b i. (ap (λ (y : Notes W). Stops y) i, refl));
    widen = λ k l a b f x r q h. h;
    follows = λ k l m a b e j x r q h f g i. alike_then (asks_in x.n.marks) r q h f g (from_acts b f g i);
    marks = λ k m f a x i. marked_inside m x i;
    runs = λ k l here at a h x i. marked_inside (Ran here.path at) x i;
    tells = λ k l m f e a b t x r q h. told_of x.n.marks m e r q h;
    ran = λ k l here at a h x r q i. told_of x.n.marks (Ran here.path at) tt r q i;
    observes = λ k l e a query from x h f g i. absurd e;
    no_bars = λ k. refl;
    step = λ k m here all j at a rest h bars cars e fuel f g x i.
        alike_then (asks_in x.n.marks) _ _ (f tt tt h x i) _ _
        (from_acts (From here.path (suc j)) _ _ (g tt tt h bars cars e));
    close = λ k m here all j h bars cars e. passes;
  }

  pub block_unasked : (p : Code) (o : Observer V) (u : Observer W) (fuel : ℕ) (here : Where) → here.inside ≡ true
      → (y : Lines)
      → AreAlike (block (machine p o stopping) (below (machine p o stopping) fuel) here y)
      (block (machine p u stopping) (below (machine p u stopping) fuel) here y)
  block_unasked p o u fuel here h y = from_acts (From here.path 0) _ _
      (related_block inside p o u stopping stopping (forms p) (link p o u) fuel
      (related_below inside p o u stopping stopping (forms p) (link p o u) fuel) tt tt here y (is_block here h y))

-- ---- what an atomic block answers

same_atomed : {V W : Type 0} (h : V → W) (us : Uses) (g : ℕ) (image : Image) (before : State) (r : Run V)
    → atomed us g image before (carried h r) ≡ atomed us g image before r
same_atomed h us g image before (Went s n) = refl
same_atomed h us g image before (Ends ends.Done n) = refl
same_atomed h us g image before (Ends (ends.Trap code at) n) = refl
same_atomed h us g image before (Ends (ends.Fuel at) n) = refl
same_atomed h us g image before (Stops n) = refl

none_asked : {V W : Type 0} (w : W) (us : Uses) (g : ℕ) (image : Image) (before : State) (r : Run V)
    → Still {V = V} {W = W} w [] r → (atomed us g image before r).asked ≡ []
none_asked w us g image before (Went s n) h = h.2
none_asked w us g image before (Ends ends.Done n) h = h
none_asked w us g image before (Ends (ends.Trap code at) n) h = h
none_asked w us g image before (Ends (ends.Fuel at) n) h = h
none_asked w us g image before (Stops n) h = h

begins_near : (g : ℕ) (ask : Ask) (image : Image) → AllNear (begins_with g ask image)
begins_near g ask image h = near_if (nat_eq g h) _ (option_map Here (ask.ins.stores h)) tt
    (near_here (ask.ins.stores h))

unasked_at : (p : Code) (ask : Ask) (image : Image) (inner : List Seen) (x : Located)
    → ((atom_at p ask image inner x).asked ≡ []) × (atom_at p ask image inner x ≡ atom_at p ask image [] x)
unasked_at p ask image inner x =
    let us : Uses = else_uses p x.group x.block in
    let before : State = begins_with x.group ask image in
    let doing : List Seen → Run (List Seen) = λ list. block (source_machine p) (below (source_machine p) ask.fuel)
    (block_here ask x) x.block.lines before (begins_after x.group image list) in
    let h : Alike {V = List Seen} {W = List Seen} [] [] (doing inner) (doing []) =
    block_unasked [] p in_order in_order ask.fuel (block_here ask x) refl x.block.lines before
    (begins_after x.group image inner) (begins_after x.group image []) (begins_near x.group ask image) refl
    refl in (none_asked {V = List Seen} {W = List Seen} [] us x.group image before (doing inner) h.1, sym (ap (atomed us x.group image before) h.0 ∙ same_atomed (λ v. []) us x.group image before (doing inner)))

pub atom_asks_nothing : AtomAsksNothing
unfolding atom
atom_asks_nothing p ask image inner = by_place (located p ask)
  where
    by_place : (o : Option Located)
        → ((rules.given o (record { out = None; image = image; asked = [] }) (atom_at p ask image inner)).asked ≡ [])
        × (rules.given o (record { out = None; image = image; asked = [] }) (atom_at p ask image inner)
        ≡ rules.given o (record { out = None; image = image; asked = [] }) (atom_at p ask image []))
    by_place None = (refl, refl)
    by_place (Some x) = unasked_at p ask image inner x
