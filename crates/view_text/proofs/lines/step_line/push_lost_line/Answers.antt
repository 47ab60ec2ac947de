use Rattle.std.proofs.Common.{◌≡◌, ◌∙◌, ◌++◌, ◌∷◌, [], ℕ, List, Option, Result, Ok, Err, ap, append_assoc, arith, codes, if◌then◌else◌, subst}
use Rattle.std.specs.Fmt.{decimal}
use Rattle.std.specs.Prelude.{OnOk}
use Rattle.std.specs.Result.{is_ok}
use Rattle.std.specs.String.{string_bytes}
use Rattle.sdl_report.specs.ReportText.{line, signal_text, target_text}
use Rattle.port_model.specs.declared.values.value.Value.{Value}
use Rattle.view_text.specs.LinesText.{fate_text}
use Rattle.view_text.specs.declared.fate.Fate.{Fate}
use Rattle.view_text.proofs.lines.step_line.push_lost_line.Goals as goal

regroup : (t a w s u g f z : List ℕ)
    → t ++ a ++ w ++ s ++ u ++ g ++ f ++ z ≡ t ++ ((a ++ w ++ s ++ u ++ g ++ f) ++ z)
regroup t a w s u g f z = simp append_assoc

-- the pieces of the line, and its end
ended : {T E : Type 0} (r : Result T E) (t t' t'' t''' all a w s u g f z last : List ℕ)
    → t' ≡ t ++ a → t'' ≡ t' ++ w ++ s ++ u ++ g → t''' ≡ t'' ++ f → last ≡ z
    → all ≡ (if is_ok r then t''' ++ last else t''')
    → OnOk r (all ≡ t ++ ((a ++ w ++ s ++ u ++ g ++ f) ++ z))
ended (Ok x) t t' t'' t''' all a w s u g f z last first second third end pushed =
    pushed ∙ ap (λ l. t''' ++ l) end ∙ ap (λ l. l ++ z) third ∙ ap (λ l. l ++ f ++ z) second
    ∙ ap (λ l. l ++ w ++ s ++ u ++ g ++ f ++ z) first ∙ regroup t a w s u g f z
ended (Err x) t t' t'' t''' all a w s u g f z last first second third end pushed = tt

pub returns : goal.returns
returns c =
    let start = string_bytes c.args.text.now in
    let lost = c.args.lost.now in
    let signal = signal_text c.args.system.now lost.item.now.name in
    let text = λ (values : List Value) (fate : Option Fate).
    line (decimal lost.at ++ codes " env output " ++ signal values ++ codes " to " ++ target_text lost.target
    ++ fate_text fate) in
    subst (λ fate. OnOk c.push.result (string_bytes c.push.new.self ≡ start ++ text lost.item.now.values fate))
    c.lost_fate.ensures
    (subst (λ values. OnOk c.push.result (string_bytes c.push.new.self ≡ start ++ text values c.lost_fate.result))
    c.as_slice-values.ensures
    (ended c.push.result start (string_bytes c.push_number.new.text) (string_bytes c.push_sent.new.text)
    (string_bytes c.push_fate.new.text) (string_bytes c.push.new.self) (decimal lost.at) (codes " env output ")
    (signal c.as_slice-values.result.now) (codes " to ") (target_text lost.target) (fate_text c.lost_fate.result)
    (10 ∷ []) _ c.in_ok-push_number.ensures c.in_ok-push_sent.ensures c.in_ok-push_fate.ensures
    (c.push.ensures.ascii (omega arith)) c.push.ensures.bytes))
