use Rattle.std.proofs.Common.{◌≡◌, ap, rules, [], Some, refl}
use Rattle.ae_tree.specs.Form.{form}
use Rattle.ae_tree.specs.Plain.{Declares, Assigns, Stores, StoresAt, Groups, Freezes, Shares, Prints, PrintsText, Asserts, Returns}
use Rattle.ae_tree.specs.Shown.{action, definition, expression, right_side, shows}
use Rattle.ae_semantics.specs.Meaning.{frozen, shares_into, returns_value, stored, stored_at}
use Rattle.ae_semantics.specs.Places.{Fine, Here, with_store}
use Rattle.ae_judge.specs.Tabled.{code_of}
use Rattle.ae_names.specs.Known.{names_declared}
use Rattle.ae_running.specs.Seen.{seen}
use Rattle.ae_acts.specs.Acts.{acted, put_into, put_again, asserted_by, printed_by}
use Rattle.ae_acts.specs.Doing.{forms_of}
use Rattle.ae_acts.proofs.ActLemmas.{acted_silently, acted_printing, names_stay}
use Rattle.ae_acts.proofs.StoreLemmas.{change_read}
use Rattle.ae_acts.proofs.statement.act.Goals as goal

pub returns-in-Let-clause-done : goal.returns-in-Let-clause-done
returns-in-Let-clause-done c =
    let p = code_of c.args.tabled.now in
    let m = definition c.args.method.now in
    let forms = forms_of c.args.run.now in
    let s = seen c.args.run.now in
    let is : action c.args.stmt.now.kind ≡ Declares c.in-Let.ty c.in-Let.name (right_side c.in-Let.rhs) =
    search (rules, shows) in
    acted_silently (acted p m forms (action c.args.stmt.now.kind) s)
    (put_into p c.in-Let.name.name (form c.in-Let.ty) (right_side c.in-Let.rhs) s) c.args.run.now
    c.declares.new.run c.declares.result
    (ap (λ a. acted p m forms a s) is) c.declares.ensures.out c.declares.ensures.done

pub returns-in-Assign-clause-done : goal.returns-in-Assign-clause-done
returns-in-Assign-clause-done c =
    let p = code_of c.args.tabled.now in
    let m = definition c.args.method.now in
    let forms = forms_of c.args.run.now in
    let s = seen c.args.run.now in
    let is : action c.args.stmt.now.kind ≡ Assigns c.in-Assign.name (right_side c.in-Assign.rhs) =
    search (rules, shows) in
    acted_silently (acted p m forms (action c.args.stmt.now.kind) s)
    (put_again p forms c.in-Assign.name.name (right_side c.in-Assign.rhs) s) c.args.run.now
    c.assigns.new.run c.assigns.result
    (ap (λ a. acted p m forms a s) is) c.assigns.ensures.stays.out c.assigns.ensures.done

pub returns-in-Assign-clause-names : goal.returns-in-Assign-clause-names
returns-in-Assign-clause-names c =
    let is : action c.args.stmt.now.kind ≡ Assigns c.in-Assign.name (right_side c.in-Assign.rhs) =
    search (rules, shows) in
    names_stay (action c.args.stmt.now.kind) c.args.run.now c.assigns.new.run c.assigns.result (ap names_declared is)
    c.assigns.ensures.stays.names

pub returns-in-Group-clause-done : goal.returns-in-Group-clause-done
returns-in-Group-clause-done c =
    let p = code_of c.args.tabled.now in
    let m = definition c.args.method.now in
    let forms = forms_of c.args.run.now in
    let s = seen c.args.run.now in
    let is : action c.args.stmt.now.kind ≡ Groups c.in-Group.group =
    search (rules, shows) in
    acted_silently (acted p m forms (action c.args.stmt.now.kind) s)
    (Fine (with_store c.in-Group.group.name (Some (Here [])) s)) c.args.run.now
    c.declares_group.new.run c.declares_group.result
    (ap (λ a. acted p m forms a s) is) c.declares_group.ensures.out c.declares_group.ensures.done

pub returns-in-Freeze-clause-done : goal.returns-in-Freeze-clause-done
returns-in-Freeze-clause-done c =
    let p = code_of c.args.tabled.now in
    let m = definition c.args.method.now in
    let forms = forms_of c.args.run.now in
    let s = seen c.args.run.now in
    let is : action c.args.stmt.now.kind ≡ Freezes c.in-Freeze.name =
    search (rules, shows) in
    acted_silently (acted p m forms (action c.args.stmt.now.kind) s)
    (frozen c.in-Freeze.name.name s) c.args.run.now c.freezes.new.run c.freezes.result
    (ap (λ a. acted p m forms a s) is) c.freezes.ensures.stays.out c.freezes.ensures.done

pub returns-in-Freeze-clause-names : goal.returns-in-Freeze-clause-names
returns-in-Freeze-clause-names c =
    let is : action c.args.stmt.now.kind ≡ Freezes c.in-Freeze.name =
    search (rules, shows) in
    names_stay (action c.args.stmt.now.kind) c.args.run.now c.freezes.new.run c.freezes.result (ap names_declared is)
    c.freezes.ensures.stays.names

pub returns-in-Share-clause-done : goal.returns-in-Share-clause-done
returns-in-Share-clause-done c =
    let p = code_of c.args.tabled.now in
    let m = definition c.args.method.now in
    let forms = forms_of c.args.run.now in
    let s = seen c.args.run.now in
    let is : action c.args.stmt.now.kind ≡ Shares c.in-Share.name c.in-Share.group =
    search (rules, shows) in
    acted_silently (acted p m forms (action c.args.stmt.now.kind) s)
    (shares_into c.in-Share.name.name c.in-Share.group.name s) c.args.run.now c.shares.new.run c.shares.result
    (ap (λ a. acted p m forms a s) is) c.shares.ensures.stays.out c.shares.ensures.done

pub returns-in-Share-clause-names : goal.returns-in-Share-clause-names
returns-in-Share-clause-names c =
    let is : action c.args.stmt.now.kind ≡ Shares c.in-Share.name c.in-Share.group =
    search (rules, shows) in
    names_stay (action c.args.stmt.now.kind) c.args.run.now c.shares.new.run c.shares.result (ap names_declared is)
    c.shares.ensures.stays.names

pub returns-in-Assert-clause-done : goal.returns-in-Assert-clause-done
returns-in-Assert-clause-done c =
    let p = code_of c.args.tabled.now in
    let m = definition c.args.method.now in
    let forms = forms_of c.args.run.now in
    let s = seen c.args.run.now in
    let is : action c.args.stmt.now.kind ≡ Asserts (expression c.in-Assert.expr) =
    search (rules, shows) in
    acted_silently (acted p m forms (action c.args.stmt.now.kind) s)
    (asserted_by p (expression c.in-Assert.expr) s) c.args.run.now c.args.run.now c.asserts.result
    (ap (λ a. acted p m forms a s) is) refl c.asserts.ensures

pub returns-in-Assert-clause-names : goal.returns-in-Assert-clause-names
returns-in-Assert-clause-names c =
    let is : action c.args.stmt.now.kind ≡ Asserts (expression c.in-Assert.expr) =
    search (rules, shows) in
    names_stay (action c.args.stmt.now.kind) c.args.run.now c.args.run.now c.asserts.result (ap names_declared is)
    refl

pub returns-in-Return-clause-done : goal.returns-in-Return-clause-done
returns-in-Return-clause-done c =
    let p = code_of c.args.tabled.now in
    let m = definition c.args.method.now in
    let forms = forms_of c.args.run.now in
    let s = seen c.args.run.now in
    let is : action c.args.stmt.now.kind ≡ Returns (expression c.in-Return.expr) =
    search (rules, shows) in
    acted_silently (acted p m forms (action c.args.stmt.now.kind) s)
    (returns_value p m (expression c.in-Return.expr) s) c.args.run.now c.returns.new.run c.returns.result
    (ap (λ a. acted p m forms a s) is) c.returns.ensures.stays.out c.returns.ensures.done

pub returns-in-Return-clause-names : goal.returns-in-Return-clause-names
returns-in-Return-clause-names c =
    let is : action c.args.stmt.now.kind ≡ Returns (expression c.in-Return.expr) =
    search (rules, shows) in
    names_stay (action c.args.stmt.now.kind) c.args.run.now c.returns.new.run c.returns.result (ap names_declared is)
    c.returns.ensures.stays.names

pub returns-in-PrintExpr-clause-done : goal.returns-in-PrintExpr-clause-done
returns-in-PrintExpr-clause-done c =
    let p = code_of c.args.tabled.now in
    let m = definition c.args.method.now in
    let forms = forms_of c.args.run.now in
    let s = seen c.args.run.now in
    let is : action c.args.stmt.now.kind ≡ Prints (expression c.in-PrintExpr.expr) =
    search (rules, shows) in
    acted_printing (acted p m forms (action c.args.stmt.now.kind) s)
    (printed_by p (expression c.in-PrintExpr.expr) s) c.args.run.now
    c.prints.new.run c.prints.result (ap (λ a. acted p m forms a s) is) c.prints.ensures.stays.state
    c.prints.ensures.printed

pub returns-in-PrintExpr-clause-names : goal.returns-in-PrintExpr-clause-names
returns-in-PrintExpr-clause-names c =
    let is : action c.args.stmt.now.kind ≡ Prints (expression c.in-PrintExpr.expr) =
    search (rules, shows) in
    names_stay (action c.args.stmt.now.kind) c.args.run.now c.prints.new.run c.prints.result (ap names_declared is)
    c.prints.ensures.stays.names

pub returns-in-PrintText-clause-names : goal.returns-in-PrintText-clause-names
returns-in-PrintText-clause-names c =
    let is : action c.args.stmt.now.kind ≡ PrintsText c.in-PrintText.text =
    search (rules, shows) in
    names_stay (action c.args.stmt.now.kind) c.args.run.now c.prints_text.new.run c.prints_text.result
    (ap names_declared is)
    c.prints_text.ensures.stays.names

pub returns-in-Field-clause-done : goal.returns-in-Field-clause-done
returns-in-Field-clause-done c =
    let p = code_of c.args.tabled.now in
    let m = definition c.args.method.now in
    let forms = forms_of c.args.run.now in
    let s = seen c.args.run.now in
    let is : action c.args.stmt.now.kind ≡ Stores c.in-Field.path (expression c.in-Field.expr) =
    search (rules, shows) in
    let o = stored p c.in-Field.path (expression c.in-Field.expr) s in
    acted_silently (acted p m forms (action c.args.stmt.now.kind) s) o c.args.run.now c.store.new.run c.store.result
    (ap (λ a. acted p m forms a s) is) c.store.ensures.keeps.out_stays
    (change_read o c.args.run.now c.store.new.run c.store.result c.store.ensures.changes)

pub returns-in-Field-clause-names : goal.returns-in-Field-clause-names
returns-in-Field-clause-names c =
    let is : action c.args.stmt.now.kind ≡ Stores c.in-Field.path (expression c.in-Field.expr) =
    search (rules, shows) in
    names_stay (action c.args.stmt.now.kind) c.args.run.now c.store.new.run c.store.result (ap names_declared is)
    c.store.ensures.keeps.shapes_stay

pub returns-in-Index-clause-done : goal.returns-in-Index-clause-done
returns-in-Index-clause-done c =
    let p = code_of c.args.tabled.now in
    let m = definition c.args.method.now in
    let forms = forms_of c.args.run.now in
    let s = seen c.args.run.now in
    let is : action c.args.stmt.now.kind
    ≡ StoresAt c.in-Index.path (expression c.in-Index.index) (expression c.in-Index.expr) = search (rules, shows) in
    let o = stored_at p c.in-Index.path (expression c.in-Index.index) (expression c.in-Index.expr) s in
    acted_silently (acted p m forms (action c.args.stmt.now.kind) s) o c.args.run.now c.store_at.new.run
    c.store_at.result (ap (λ a. acted p m forms a s) is) c.store_at.ensures.keeps.out_stays
    (change_read o c.args.run.now c.store_at.new.run c.store_at.result c.store_at.ensures.changes)

pub returns-in-Index-clause-names : goal.returns-in-Index-clause-names
returns-in-Index-clause-names c =
    let is : action c.args.stmt.now.kind
    ≡ StoresAt c.in-Index.path (expression c.in-Index.index) (expression c.in-Index.expr) = search (rules, shows) in
    names_stay (action c.args.stmt.now.kind) c.args.run.now c.store_at.new.run c.store_at.result
    (ap names_declared is) c.store_at.ensures.keeps.shapes_stay
