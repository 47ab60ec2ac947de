-- What is sent, line by line.
use Rattle.std.proofs.Common.{◌≡◌, ◌+◌, ◌<◌, ◌≤◌, ℕ, true, List, [], ◌∷◌, ◌++◌, Some, if◌then◌else◌, ap, append_assoc, append-nil, drop, get_or, length, map, sym, ◌∙◌}
use Rattle.std.proofs.lemmas.List.{drop_all, drop_more}
use Rattle.run_record.specs.declared.record.Report.{Report}
use Rattle.sdl_script.specs.declared.script.ScriptLine.{ScriptLine}
use Rattle.sdl_script.specs.declared.script.ScriptSignal.{ScriptSignal}
use Rattle.sdl_system.specs.System.{SystemValue}
use Rattle.view_text.specs.Course.{IsAfter}
use Rattle.view_text.specs.Sending.{SendingValue, after, before, is_sent, line_sent, sending_of, sending_value, sendings, signal_sent}
use Rattle.view_text.specs.Walk.{StepValue}
use Rattle.view_text.specs.declared.course.Course.{Course}
use Rattle.view_text.specs.declared.sending.Sending.{Sending}

-- This was sent by the lines so far, and the rest is sent from where the course is.
pub record AreSent (system : SystemValue) (report : Report) (all : List StepValue) (lines : List ScriptLine)
    (index : ℕ) (course : Course) (sent : List Sending) : Type 0 where
  pub told : List StepValue
  pub left : List StepValue
  pub now : IsAfter system report.records.items told left course
  pub whole : map sending_value sent ++ sendings system report told left (drop index lines)
      ≡ sendings system report [] all lines

-- ---- by one line

module _ (system : SystemValue) (report : Report) (told left : List StepValue) (line : ScriptLine) where
  -- a signal, if the environment comes to it
  pub line-sends : (signal : ScriptSignal) → is_sent report.whole left ≡ true → line.signal ≡ Some signal
      → line_sent system report told left line ≡ sending_of system report.records.items told line.at signal ∷ []
  line-sends signal sent some =
      ap (λ b. if b then signal_sent system report.records.items told line.at line.signal else []) sent
      ∙ ap (signal_sent system report.records.items told line.at) some

-- ---- by all lines

module _ (system : SystemValue) (report : Report) (all : List StepValue) (lines : List ScriptLine) where
  pub sent-none : (course : Course) (sent : List Sending) → sent ≡ []
      → IsAfter system report.records.items [] all course → AreSent system report all lines 0 course sent
  sent-none course sent none now = record {
    told = [];
    left = all;
    now = now;
    whole = ap (λ l. map sending_value l ++ sendings system report [] all lines) none;
  }

  -- one line more, by which this is sent
  pub sent-more : (index : ℕ) (line : ScriptLine) (old new : Course) (sent sent' : List Sending)
      (so_far : AreSent system report all lines index old sent) (more : List SendingValue) → index < length lines
      → line ≡ get_or lines index line
      → IsAfter system report.records.items (so_far.told ++ before line.at so_far.left) (after line.at so_far.left) new
      → map sending_value sent' ≡ map sending_value sent ++ more
      → more ≡ line_sent system report (so_far.told ++ before line.at so_far.left) (after line.at so_far.left) line
      → AreSent system report all lines (index + 1) new sent'
  sent-more index line old new sent sent' so_far more within at now grows is = record {
    told = so_far.told ++ before line.at so_far.left;
    left = after line.at so_far.left;
    now = now;
    whole =
        ap (λ l. l ++ rest) grows ∙ append_assoc (map sending_value sent) more rest
        ∙ ap (λ l. map sending_value sent ++ (l ++ rest)) is
        ∙ ap (λ l. map sending_value sent ++ sendings system report so_far.told so_far.left l)
        (sym (drop_more lines index line within ∙ ap (λ x. x ∷ drop (index + 1) lines) (sym at)))
        ∙ so_far.whole;
  }
    where
      rest : List SendingValue
      rest =
          sendings system report (so_far.told ++ before line.at so_far.left) (after line.at so_far.left)
          (drop (index + 1) lines)

  pub sent-all : (index : ℕ) (course : Course) (sent : List Sending)
      → AreSent system report all lines index course sent → length lines ≤ index
      → map sending_value sent ≡ sendings system report [] all lines
  sent-all index course sent so_far end =
      sym (append-nil (map sending_value sent))
      ∙ ap (λ l. map sending_value sent ++ sendings system report so_far.told so_far.left l)
      (sym (drop_all index lines end))
      ∙ so_far.whole
