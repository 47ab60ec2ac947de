use Rattle.std.proofs.Common.{◌≡◌, Some, [], sym, refl, subst}
use Rattle.std.proofs.lemmas.Bool.{false≢true}
use Rattle.std.proofs.lemmas.Result.{err_from_is_err_and}
use Rattle.sdl_script.specs.Reading.{receiver}
use Rattle.sdl_script.specs.Spelled.{plain_receiver}
use Rattle.sdl_script.proofs.LineLemmas.{no_receiver, not_received, more_behind}
use Rattle.sdl_script.proofs.ReadingLemmas.{receiver_sound, word_sound}
use Rattle.sdl_script.proofs.spelling.read_whither.Goals as goal

pub returns-in_err-receiver-clause-err : goal.returns-in_err-receiver-clause-err
returns-in_err-receiver-clause-err c =
    let p = err_from_is_err_and c.from_residual.result c.from_residual.ensures.1 in
    rw (p.1, p.2)
    (c.in_err-receiver.ensures.read.0, no_receiver c.args.cursor.now c.in-Some.word.now c.word.new.self c.in-Some.ensures.read (not_received c.word.new.self c.in_err-receiver.ensures.read.1))

pub returns-then-is_at_end-2-clause-ok : goal.returns-then-is_at_end-2-clause-ok
returns-then-is_at_end-2-clause-ok c = (
  c.word.new.self,
  (c.in-Some.word.now, word_sound c.in-Some.word.now c.args.cursor.now c.word.new.self c.in-Some.ensures.read, sym c.if-not-is_to.ensures),
  receiver_sound (plain_receiver c.in_ok-receiver.receiver) c.word.new.self []
      (subst (λ l. receiver c.word.new.self ≡ Some (plain_receiver c.in_ok-receiver.receiver, l)) (c.if-is_at_end-2.ensures.0 refl) c.in_ok-receiver.ensures.read),
)

pub returns-else-is_at_end-2-clause-err : goal.returns-else-is_at_end-2-clause-err
returns-else-is_at_end-2-clause-err c = (
  refl,
  no_receiver c.args.cursor.now c.in-Some.word.now c.word.new.self c.in-Some.ensures.read
      (more_behind c.word.new.self c.read_receiver.new.cursor (plain_receiver c.in_ok-receiver.receiver) c.in_ok-receiver.ensures.read
      (λ nil. false≢true (c.if-is_at_end-2.ensures.1 nil))),
)
