-- What is written and what is left, one step further.
use Rattle.std.proofs.Common.{◌≡◌, ℕ, ◌+◌, ◌<◌, ◌++◌, List, [], ◌∷◌, length, drop, get_or, slice_get, sym, ◌∙◌, ap}
use Rattle.std.proofs.Common.{append_assoc, append-nil, add-one, drop-cons}
use Rattle.ae_text.specs.Tokens.{Text}
use Rattle.ae_text.specs.declared.token.Keyword.TheVariants as word
use Rattle.ae_text.specs.declared.token.Sign.TheVariants as sign
use Rattle.ae_text.specs.declared.token.TokenKind.TheVariants as t
use Rattle.ae_tree.specs.declared.tree.NameAt.{NameAt}
use Rattle.ae_tree.specs.declared.tree.Param.{Param}
use Rattle.ae_tree.specs.declared.tree.GroupNeed.{GroupNeed}
use Rattle.ae_tree.specs.declared.tree.Decl.{Decl}
use Rattle.ae_tree.specs.Plain.{Definition, Code}
use Rattle.ae_layout.specs.Spelling.{Printed, printed_text, tokens_text}
use Rattle.ae_layout.specs.Layout.{Spellings, near, far, name_kind, after_commas, result_tokens, groups_tokens}
use Rattle.ae_layout.specs.Layout.{params_tokens, needs_tokens, head_tokens, Row, rows_text, found_method_rows}
use Rattle.ae_layout.specs.Layout.{methods_rows, decl_rows, decls_rows}
use Rattle.ae_layout.proofs.Texts.{tokens_text-append, rows_text-append, drop_one}

pub one_token : (o0 o1 : Text) (x : Printed) → o1 ≡ o0 ++ printed_text x → o1 ≡ o0 ++ tokens_text (x ∷ [])
one_token o0 o1 x p = p ∙ ap (λ s. o0 ++ s) (sym (append-nil (printed_text x)))

pub then_tokens : (o0 o1 o2 : Text) (xs ys : List Printed) → o1 ≡ o0 ++ tokens_text xs → o2 ≡ o1 ++ tokens_text ys
    → o2 ≡ o0 ++ tokens_text (xs ++ ys)
then_tokens o0 o1 o2 xs ys p q = q ∙ ap (λ s. s ++ tokens_text ys) p ∙ append_assoc o0 (tokens_text xs)
    (tokens_text ys) ∙ ap (λ s. o0 ++ s) (sym (tokens_text-append xs ys))

pub token_then : (o0 o1 o2 : Text) (x : Printed) (ys : List Printed) → o1 ≡ o0 ++ printed_text x
    → o2 ≡ o1 ++ tokens_text ys → o2 ≡ o0 ++ tokens_text (x ∷ ys)
token_then o0 o1 o2 x ys p q = q ∙ ap (λ s. s ++ tokens_text ys) p ∙ append_assoc o0 (printed_text x) (tokens_text ys)

-- one more item behind a comma
pub commas_step : {A : Type 0} (f : A → List Printed) (xs : List A) (i : ℕ) (x : A) (whole o1 o2 o3 : Text)
    → i < length xs → x ≡ get_or xs i x → whole ≡ o1 ++ tokens_text (after_commas f (drop i xs))
    → o2 ≡ o1 ++ printed_text (near (t.Sign sign.Comma)) → o3 ≡ o2 ++ tokens_text (f x)
    → whole ≡ o3 ++ tokens_text (after_commas f (drop (i + 1) xs))
commas_step f xs i x whole o1 o2 o3 lt is h p q =
    let rest = after_commas f (drop (i + 1) xs) in
    let w = token_then o1 o2 o3 (near (t.Sign sign.Comma)) (f x) p q in
    h ∙ ap (λ ys. o1 ++ tokens_text (after_commas f ys)) (drop_one xs i x lt is)
    ∙ ap (λ s. o1 ++ s) (tokens_text-append (near (t.Sign sign.Comma) ∷ f x) rest)
    ∙ sym (append_assoc o1 (tokens_text (near (t.Sign sign.Comma) ∷ f x)) (tokens_text rest))
    ∙ ap (λ s. s ++ tokens_text rest) (sym w)

-- one more method of a class
pub methods_step : (names : Spellings) (indent : Text) (ms : List Definition) (ns : List ℕ) (i x : ℕ)
    (whole o1 o2 : Text) → drop i ns ≡ x ∷ drop (i + 1) ns
    → whole ≡ o1 ++ rows_text (methods_rows names indent ms (drop i ns))
    → o2 ≡ o1 ++ rows_text (found_method_rows names indent (slice_get ms x))
    → whole ≡ o2 ++ rows_text (methods_rows names indent ms (drop (i + 1) ns))
methods_step names indent ms ns i x whole o1 o2 e h p =
    let first = found_method_rows names indent (slice_get ms x) in
    let rest = methods_rows names indent ms (drop (i + 1) ns) in
    h ∙ ap (λ ys. o1 ++ rows_text (methods_rows names indent ms ys)) e
    ∙ ap (λ s. o1 ++ s) (rows_text-append first rest)
    ∙ sym (append_assoc o1 (rows_text first) (rows_text rest))
    ∙ ap (λ s. s ++ rows_text rest) (sym p)

-- one more declaration
pub decls_step : (p : Code) (ds : List Decl) (i : ℕ) (x : Decl) (whole o1 o2 : Text) → drop i ds ≡ x ∷ drop (i + 1) ds
    → whole ≡ o1 ++ rows_text (decls_rows p (drop i ds)) → o2 ≡ o1 ++ rows_text (decl_rows p x)
    → whole ≡ o2 ++ rows_text (decls_rows p (drop (i + 1) ds))
decls_step p ds i x whole o1 o2 e h q =
    let first = decl_rows p x in
    let rest = decls_rows p (drop (i + 1) ds) in
    h ∙ ap (λ ys. o1 ++ rows_text (decls_rows p ys)) e
    ∙ ap (λ s. o1 ++ s) (rows_text-append first rest)
    ∙ sym (append_assoc o1 (rows_text first) (rows_text rest))
    ∙ ap (λ s. s ++ rows_text rest) (sym q)

-- an item that is copied out of a list
pub drop_copy : {A : Type 0} (xs : List A) (i : ℕ) (d : A) → i < length xs → drop i xs ≡ get_or xs i d ∷ drop (i + 1) xs
drop_copy xs i d h = rw add-one (drop-cons xs i d h)

-- the parts of a method's head, one after another
pub head_written : (names : Spellings) (m : Definition) (gs : List NameAt) (ps : List Param) (ns : List GroupNeed)
    (o0 o1 o2 o3 o4 o5 o6 o7 o8 o9 : Text) → gs ≡ m.groups → ps ≡ m.params → ns ≡ m.needs
    → o1 ≡ o0 ++ printed_text (near (t.Word word.Method)) → o2 ≡ o1 ++ tokens_text (result_tokens names m.result)
    → o3 ≡ o2 ++ printed_text (far (name_kind names m.name.name)) → o4 ≡ o3 ++ tokens_text (groups_tokens names gs)
    → o5 ≡ o4 ++ printed_text (near (t.Sign sign.OpenParen)) → o6 ≡ o5 ++ tokens_text (params_tokens names m.me ps)
    → o7 ≡ o6 ++ printed_text (near (t.Sign sign.CloseParen)) → o8 ≡ o7 ++ tokens_text (needs_tokens names ns)
    → o9 ≡ o8 ++ printed_text (far (t.Sign sign.OpenBrace)) → o9 ≡ o0 ++ tokens_text (head_tokens names m)
head_written names m gs ps ns o0 o1 o2 o3 o4 o5 o6 o7 o8 o9 eg ep en p1 p2 p3 p4 p5 p6 p7 p8 p9 =
    let q4 : o4 ≡ o3 ++ tokens_text (groups_tokens names m.groups) = p4
    ∙ ap (λ (x : List NameAt). o3 ++ tokens_text (groups_tokens names x)) eg in
    let q6 : o6 ≡ o5 ++ tokens_text (params_tokens names m.me m.params) = p6
    ∙ ap (λ (x : List Param). o5 ++ tokens_text (params_tokens names m.me x)) ep in
    let q8 : o8 ≡ o7 ++ tokens_text (needs_tokens names m.needs) = p8
    ∙ ap (λ (x : List GroupNeed). o7 ++ tokens_text (needs_tokens names x)) en in
    let a : List Printed = near (t.Word word.Method) ∷ result_tokens names m.result in
    let b : List Printed = far (name_kind names m.name.name) ∷ groups_tokens names m.groups in
    let d : List Printed = near (t.Sign sign.OpenParen) ∷ params_tokens names m.me m.params in
    let e : List Printed = near (t.Sign sign.CloseParen) ∷ needs_tokens names m.needs in
    let f : List Printed = far (t.Sign sign.OpenBrace) ∷ [] in
    let wa : o2 ≡ o0 ++ tokens_text a = token_then o0 o1 o2 (near (t.Word word.Method))
    (result_tokens names m.result) p1 p2 in
    let wb : o4 ≡ o2 ++ tokens_text b = token_then o2 o3 o4 (far (name_kind names m.name.name))
    (groups_tokens names m.groups) p3 q4 in
    let wd : o6 ≡ o4 ++ tokens_text d = token_then o4 o5 o6 (near (t.Sign sign.OpenParen))
    (params_tokens names m.me m.params) p5 q6 in
    let we : o8 ≡ o6 ++ tokens_text e = token_then o6 o7 o8 (near (t.Sign sign.CloseParen))
    (needs_tokens names m.needs) p7 q8 in
    let wf : o9 ≡ o8 ++ tokens_text f = one_token o8 o9 (far (t.Sign sign.OpenBrace)) p9 in
    then_tokens o0 o8 o9 (((a ++ b) ++ d) ++ e) f
    (then_tokens o0 o6 o8 ((a ++ b) ++ d) e (then_tokens o0 o4 o6 (a ++ b) d (then_tokens o0 o2 o4 a b wa wb) wd)
    we) wf
