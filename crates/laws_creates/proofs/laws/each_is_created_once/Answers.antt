-- Each instance is created once: lemmas say so.
use Rattle.laws_creates.proofs.Creates.{each_is_created_once}
use Rattle.laws_creates.proofs.Numbers.{each_has_one_record}
use Rattle.laws_creates.proofs.laws.each_is_created_once.Goals as goal

pub returns : goal.returns
returns c = record { instances = each_is_created_once; records = each_has_one_record }
