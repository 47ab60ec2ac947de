use Rattle.std.proofs.Common.{◌++◌, ◌∙◌, ap, sym}
use Rattle.std.proofs.lemmas.Iterator.{YieldsList-from_chars}
use Rattle.std.proofs.lemmas.Iterator.Consumers.{YieldsList-end}
use Rattle.std.proofs.lemmas.List.{flat_map_more, map-id}
use Rattle.std.specs.List.{flat_map}
use Rattle.std.specs.String.{string_bytes}
use Rattle.view_chart.specs.Markup.{escape}
use Rattle.view_chart.proofs.picture.markup.push_escaped.Goals as goal

pub loop-letter-preserved : goal.loop-letter-preserved
loop-letter-preserved c =
    c.in_ok-push_letter.ensures ∙ ap (λ l. l ++ escape c.in-Some.letter) c.loop-letter.invariant
    ∙ flat_map_more escape (string_bytes c.args.text.now) c.loop-letter.yielded c.in-Some.letter

pub returns : goal.returns
returns c =
    let t =
    YieldsList-end (YieldsList-from_chars c.args.words.now c.utf8.words cc) c.loop-letter.yielded _
    c.loop-letter.yielded_by _ _ c.in-None.is c.next.ensures.steps in
    c.loop-letter.invariant
    ∙ ap (λ l. string_bytes c.args.text.now ++ flat_map escape l) (sym (map-id c.loop-letter.yielded) ∙ t.0)
