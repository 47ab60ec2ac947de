use Rattle.std.proofs.Common.{rules, arith, ◌≡◌, ◌≤◌, length, subst}
use Rattle.std.proofs.lemmas.Grind.{common_steps}
use Rattle.parse_expressions.proofs.Grammar.{limit, tree_value, Words, words_of, Fails}
use Rattle.parse_expressions.proofs.AllLaws.{read_as}
use Rattle.sdl_parse.specs.Systems.{specification}
use Rattle.sdl_parse.proofs.ParserLemmas.{found, refuses}
use Rattle.sdl_parse.proofs.parser.parse.Goals as goal

pub returns-in-Ok-specification-clause-found : goal.returns-in-Ok-specification-clause-found
returns-in-Ok-specification-clause-found c =
    let is : c.new-cursor.result ≡ words_of c.args.text.now c.in-Ok.tokens.items = first_of (search rules, grind (arith, common_steps)) in
    let short : length c.args.text.now ≤ 1048576 = first_of (search rules, grind (arith, common_steps)) in
    let P : Words → Type 0 = λ i. specification limit i ≡ read_as (tree_value c.in-Ok-specification.tree) c.specification.new.cursor in
    found c.args.text.now c.in-Ok.tokens.items short c.in-Ok.ensures.tokens (tree_value c.in-Ok-specification.tree) c.specification.new.cursor (subst P is c.in-Ok-specification.ensures)

pub returns-clause-refused : goal.returns-clause-refused
returns-clause-refused c =
    let is : c.new-cursor.result ≡ words_of c.args.text.now c.in-Ok.tokens.items = first_of (search rules, grind (arith, common_steps)) in
    let short : length c.args.text.now ≤ 1048576 = first_of (search rules, grind (arith, common_steps)) in
    let P : Words → Type 0 = λ i. Fails (specification limit i) c.in-Err-specification.fault c.specification.new.cursor in
    refuses c.args.text.now c.in-Ok.tokens.items short c.in-Ok.ensures.tokens c.refusal.result c.in-Err-specification.fault c.specification.new.cursor (subst P is c.in-Err-specification.ensures) c.refusal.ensures
