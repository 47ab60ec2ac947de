use Rattle.std.proofs.Common.{◌≡◌, ◌++◌, ◌∙◌, ap, sym}
use Rattle.std.proofs.lemmas.List.{append-nil}
use Rattle.build_names.specs.Names.{names_in, first_of}
use Rattle.build_expressions.specs.Scope.{visible}
use Rattle.build_constants.specs.Named.{synonym_in}
use Rattle.build_constants.proofs.NamedLemmas.{named-outward}
use Rattle.build_constants.proofs.synonyms.named.add_name.Goals as goal

pub returns-in_ok-push-in-Some : goal.returns-in_ok-push-in-Some
returns-in_ok-push-in-Some c =
    let a = c.args.values.now in
    let text = c.deref.result.now in
    let e : synonym_in c.get.result ≡ synonym_in (first_of (visible a) text) =
    named-outward (names_in a.process) (names_in a.block) a.system.now text c.get.result c.get.ensures in
    c.in_ok-push-in-Some.ensures.items ∙ ap (λ list. c.args.numbers.now.items ++ list)
    (sym c.in-Some.ensures ∙ e ∙ ap (λ t. synonym_in (first_of (visible a) t)) c.deref.ensures)

pub returns-in-None : goal.returns-in-None
returns-in-None c =
    let a = c.args.values.now in
    let text = c.deref.result.now in
    let e : synonym_in c.get.result ≡ synonym_in (first_of (visible a) text) =
    named-outward (names_in a.process) (names_in a.block) a.system.now text c.get.result c.get.ensures in
    sym (append-nil c.args.numbers.now.items) ∙ ap (λ list. c.args.numbers.now.items ++ list)
    (sym c.in-None.ensures ∙ e ∙ ap (λ t. synonym_in (first_of (visible a) t)) c.deref.ensures)
