-- A whole program that runs today comes to the same by both meanings.
use Rattle.std.proofs.Common.{◌≡◌, ℕ, ℤ, List, [], ◌∷◌, Option, None, Some, refl, ap, ◌∙◌, length}
use Rattle.std.specs.Prelude.{filter_map, flat_map}
use Rattle.ae_tree.specs.declared.tree.Class.{Class}
use Rattle.ae_tree.specs.declared.tree.Decl.{Decl}
use Rattle.ae_tree.specs.declared.tree.Decl.TheVariants as decl
use Rattle.ae_tree.specs.Names.{main}
use Rattle.ae_tree.specs.Plain.{Definition, Code}
use Rattle.ae_tree.specs.Grammar.{numbers_from}
use Rattle.ae_tree.specs.WellShaped.{WellShaped, class_in, methods_at}
use Rattle.ae_tree.specs.Built.{AreBuilt, Built}
use Rattle.ae_rules.specs.Verdict.{Holds}
use Rattle.ae_rules.specs.Context.{Context}
use Rattle.ae_rules.specs.Statements.{judge_lines}
use Rattle.ae_rules.specs.Judges as rules
use Rattle.ae_meaning.specs.Meaning as today
use Rattle.ae_meaning.specs.Judged.{Integers, AreJudged}
use Rattle.ae_semantics.specs.Calls.{takers}
use Rattle.ae_semantics.specs.Observations.{Seen}
use Rattle.ae_semantics.specs.Runs.{Run, Went, Ends, Stops, whole_block, Below}
use Rattle.ae_semantics.specs.Meaning.{block, below, many}
use Rattle.ae_semantics.specs.Means.{main_here, main_state, run_start, no_notes, meant, source_machine, mean, seq}
use Rattle.ae_cases.specs.Laws.{IsAsToday, TodayIsACase}
use Rattle.ae_cases.proofs.Lines.{AlikeRuns, alike_left, lines_alike}
use Rattle.ae_cases.proofs.from_meaning.Fits.{main_is}
use Rattle.ae_cases.proofs.from_meaning.Judged.{body_judged}

-- runs that are alike come to the same
alike_meant : (r : today.Run) (q : Run (List Seen)) → AlikeRuns r q → IsAsToday (today.meaning_of_run r) (meant q)
alike_meant (today.Went t) (Went s n) a = record { ending = refl; out = a.log; unsplit = a.unsplit }
alike_meant (today.Went t) (Ends e n) a = absurd a
alike_meant (today.Went t) (Stops n) a = absurd a
alike_meant (today.Ends e log) (Went s n) a = absurd a
alike_meant (today.Ends e log) (Ends f n) a = record { ending = ap Some a.0; out = a.1.log; unsplit = a.1.unsplit }
alike_meant (today.Ends e log) (Stops n) a = absurd a
alike_meant (today.Stops log) (Went s n) a = absurd a
alike_meant (today.Stops log) (Ends f n) a = absurd a
alike_meant (today.Stops log) (Stops n) a = record { ending = refl; out = a.log; unsplit = a.unsplit }

-- ---- where a run begins

method_alone : (p : Code) (x : Decl) (xs : List Decl) → filter_map class_in (x ∷ xs) ≡ []
    → flat_map (methods_at p) (x ∷ xs) ≡ 0 ∷ [] → x ∷ xs ≡ decl.Method 0 ∷ []
method_alone p (decl.Class n) xs none one = absurd (cc)
method_alone p (decl.Method n) [] none one = let e : n ≡ 0 = cc in ap (λ k. decl.Method k ∷ []) e
method_alone p (decl.Method n) (decl.Class k ∷ xs) none one = absurd (cc)
method_alone p (decl.Method n) (decl.Method k ∷ xs) none one = absurd (cc)

-- the one method is all that is declared
one_declared : (p : Code) → WellShaped p → Built p → p.decls ≡ decl.Method 0 ∷ []
one_declared p w b = declared p.decls
    (w.classes ∙ ap (λ (cs : List Class). numbers_from 0 (length cs)) b.classes)
    (w.methods ∙ ap (λ (ms : List Definition). numbers_from 0 (length ms)) b.methods)
  where
    declared : (xs : List Decl) → filter_map class_in xs ≡ [] → flat_map (methods_at p) xs ≡ 0 ∷ []
        → xs ≡ decl.Method 0 ∷ []
    declared [] none one = absurd (cc)
    declared (x ∷ xs) none one = method_alone p x xs none one

start_is : (p : Code) (m : Definition) (ints : List ℤ) → p.decls ≡ decl.Method 0 ∷ [] → p.methods ≡ m ∷ []
    → m.name.name ≡ main
    → run_start p ints ≡ Some (record { here = main_here p 0 m; method = m; state = main_state p m ints })
start_is p m ints d e n = rw (d, e, n) refl

no_takers : (p : Code) (m : Definition) → m.me ≡ None → m.params ≡ [] → takers p m ≡ []
no_takers p m e d = rw (e, d) refl

body_alike : (p : Code) (m : Definition) (ints : List ℤ) (fuel : ℕ) → takers p m ≡ [] → AreBuilt m.body
    → Integers (rules.start p m)
    → (c : Context) → judge_lines p m m.body (rules.start p m) ≡ Holds c
    → AlikeRuns (today.today_many m.body today.begin)
    (block (source_machine p) (below (source_machine p) fuel) (main_here p 0 m) m.body (main_state p m ints)
    (no_notes []))
body_alike p m ints fuel e b i c h =
    let under : Option (Below (List Seen)) = below (source_machine p) fuel in
    alike_left (rules.start p m) (today.today_many m.body today.begin)
    (many (source_machine p) under (main_here p 0 m) (whole_block m.body (main_here p 0 m)) 0 m.body []
    (main_state p m ints) (no_notes []))
    (lines_alike p under (main_here p 0 m) (whole_block m.body (main_here p 0 m)) 0 m.body b i c h
    today.begin (main_state p m ints) (no_notes []) (λ x. rw e refl) (record { log = refl; unsplit = refl }))

-- Today's meaning of an accepted program of the forms that run is the whole one.
pub today_is_case : TodayIsACase
unfolding today.today_seq mean seq
today_is_case p w a b ints fuel =
    let m : Definition = b.method in
    let j : AreJudged p m m.body (rules.start p m) = body_judged p a b in
    let e : today.main_body p.methods ≡ m.body = ap today.main_body b.methods
    ∙ main_is m b.is_main.class b.is_main.is_named in
    rw (e, start_is p m ints (one_declared p w b) b.methods b.is_main.is_named)
    (alike_meant _ _ (body_alike p m ints fuel (no_takers p m b.is_main.me b.is_main.params) j.built j.integers j.later
    j.holds))
