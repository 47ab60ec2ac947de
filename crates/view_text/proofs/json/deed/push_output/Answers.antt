use Rattle.std.proofs.Common.{◌≡◌, ◌∙◌, ◌++◌, ℕ, List, Result, Ok, Err, ap, append_assoc, arith, codes, if◌then◌else◌}
use Rattle.std.specs.Prelude.{OnOk}
use Rattle.std.specs.Result.{is_ok}
use Rattle.std.specs.String.{string_bytes}
use Rattle.sdl_report.specs.Name.{signal_name}
use Rattle.view_text.specs.JsonText.{reached_json}
use Rattle.view_text.specs.JsonValue.{key, quoted, values_json}
use Rattle.view_text.proofs.json.deed.push_output.Goals as goal

regroup : (t a b c d e f g h z : List ℕ)
    → (t ++ a ++ b ++ c ++ d ++ e ++ f) ++ g ++ h ++ z
    ≡ t ++ (a ++ b ++ c ++ (d ++ e ++ f ++ g ++ h) ++ z)
regroup t a b c d e f g h z = simp append_assoc

-- the pieces of an output, and the brace that closes it
closed : {T E : Type 0} (r : Result T E) (t t' t'' all a b c d e f g h z last : List ℕ)
    → t' ≡ t ++ a ++ b ++ c ++ d ++ e ++ f → t'' ≡ t' ++ g ++ h → last ≡ z
    → all ≡ (if is_ok r then t'' ++ last else t'')
    → OnOk r (all ≡ t ++ (a ++ b ++ c ++ (d ++ e ++ f ++ g ++ h) ++ z))
closed (Ok x) t t' t'' all a b c d e f g h z last first second brace pushed =
    pushed ∙ ap (λ l. t'' ++ l) brace ∙ ap (λ l. l ++ z) second ∙ ap (λ l. l ++ g ++ h ++ z) first
    ∙ regroup t a b c d e f g h z
closed (Err x) t t' t'' all a b c d e f g h z last first second brace pushed = tt

pub returns : goal.returns
returns c =
    closed c.push.result (string_bytes c.args.text.now) (string_bytes c.push_signal.new.text)
    (string_bytes c.push_reached.new.text) (string_bytes c.push.new.self) (codes "{") (quoted (codes "output"))
    (codes ":") (quoted (signal_name c.args.system.now c.args.signal)) (key (codes "values"))
    (values_json c.args.step.now.values.now) (key (codes "to"))
    (reached_json c.args.told.now c.args.target c.args.step.now.link) (codes "}") _
    c.in_ok-push_signal.ensures c.in_ok-push_reached.ensures (c.push.ensures.ascii (omega arith)) c.push.ensures.bytes
