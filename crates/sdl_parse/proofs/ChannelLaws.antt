-- The laws of channels and their connections.
use Rattle.sdl_parse.proofs.Words.{Agent, Anywhere, Bool, Both, ChannelEnd, ChannelPath, Env, Followed, Form, IsMark, Law, Made, Nothing, Option, Optional, SpellsChannel, SpellsClosing, SpellsConnect, SpellsName, SpellsNoDelay, SpellsPath, SpellsPoint, Spot, Words, ap, as_law, behind_law, both_law, closing_begins, closing_law, either_as, either_law, end_other, ended_law, erased_channel, erased_connection, erased_end, erased_path, false, followed_law, front, inl, inr, made_as, made_law, mark_law, maybe_mark, name_law, nothing_law, option_map, optional_law, record_law, refl, same_mark, sees, sees_at, sees_front, sigs_law, stops_law, then_law, tied_law, true, ◌∙◌, ◌≡◌, ◌⊎◌, names_law, closed_same}
use Rattle.sdl_tree.specs.declared.mark.Mark.TheVariants as mark
use Rattle.sdl_parse.specs.Channels.{point, path_with, path, nodelay, paths, channel_with, channel, connection_with, connect}

pub point_law : Law point SpellsPoint SpellsPoint Anywhere erased_end
unfolding point sees front same_mark
point_law =
    as_law (either_as (made_as SpellsPoint Env) (made_as SpellsPoint Agent)) point_from (either_as (made_as SpellsPoint Env) (made_as SpellsPoint Agent))
    (either_law (sees mark.Env) (sees_front mark.Env) (made_law Env (λ x. refl) (mark_law mark.Env)) (made_law Agent (λ x. refl) name_law)
    (λ x i j s. sees_at mark.Env s.0 i j s.2)
    (λ x i j s t. ap (sees mark.Env) s.2))
  where
    point_from : (x : ChannelEnd) (i j : Words) → SpellsPoint x i j → Made Env (IsMark mark.Env) x i j ⊎ Made Agent SpellsName x i j
    point_from (Env w) i j s = inl (w, refl, s)
    point_from (Agent x) i j s = inr (x, refl, s)

-- "from" point "to" point "with" sigs end
pub path_law : Law path SpellsPath SpellsPath Anywhere erased_path
unfolding path
path_law = record_law path_with (λ y. (y.from, (y.to, y.signals))) (λ x. refl) (λ x. refl) (λ y. refl)
    (behind_law mark.From (then_law point_law (behind_law mark.To (then_law point_law (behind_law mark.With sigs_law)))))

-- ---- ["nodelay"]

nodelay_law : Law nodelay SpellsNoDelay SpellsNoDelay (λ j. sees mark.NoDelay j ≡ false) (λ b. b)
nodelay_law =
    as_law to from to
    (either_law (sees mark.NoDelay) (sees_front mark.NoDelay) (stops_law (λ j t. tt) (made_law (λ _. true) (λ x. refl) (mark_law mark.NoDelay))) (nothing_law false)
    (λ b i j s. sees_at mark.NoDelay s.0 i j s.2) (λ b i j s t. ap (sees mark.NoDelay) s.1 ∙ t))
  where
    to : (b : Bool) (i j : Words) → Made (λ _. true) (IsMark mark.NoDelay) b i j ⊎ Nothing false b i j → SpellsNoDelay b i j
    to b i j (inl s) = rw s.1 (s.0, s.2)
    to b i j (inr s) = rw s.0 s.1

    from : (b : Bool) (i j : Words) → SpellsNoDelay b i j → Made (λ _. true) (IsMark mark.NoDelay) b i j ⊎ Nothing false b i j
    from true i j s = inl (s.0, refl, s.1)
    from false i j s = inr (refl, s)

-- ---- channels

abbrev SpellsPathsOf : Spot → Form (Bool × (ChannelPath × Option ChannelPath))
SpellsPathsOf x = Followed (Both SpellsNoDelay (Both SpellsPath (Optional SpellsPath))) (SpellsClosing mark.EndChannel x.text)

pub channel_law : Law channel SpellsChannel SpellsChannel Anywhere erased_channel
unfolding channel sees front same_mark
channel_law =
    record_law channel_with (λ y. (y.word, (y.name, (y.is_nodelay, (y.first, y.second))))) (λ x. refl) (λ x. refl) (λ y. refl)
    (then_law (mark_law mark.Channel)
    (tied_law name_law paths_law (λ x y m j s t. tt) (closed_same (Both SpellsNoDelay (Both SpellsPath (Optional SpellsPath))) mark.EndChannel)))
  where
    paths_law : (x : Spot) → Law (paths x) (SpellsPathsOf x) (SpellsPathsOf x) Anywhere (λ y. (y.0, (erased_path y.1.0, option_map erased_path y.1.1)))
    paths_law x =
        followed_law (both_law nodelay_law (then_law path_law (optional_law (maybe_mark mark.From path_law (λ z i j s. (s.0, s.1, s.2))))) (λ y m j s t. ap (sees mark.NoDelay) s.1.2))
        (closing_law mark.EndChannel x.text)
        (λ m j s t. closing_begins (λ k. Anywhere k × (sees mark.From k ≡ false)) mark.EndChannel (λ w k. (tt, refl)) x.text m j s)

-- ---- connections

pub connect_law : Law connect SpellsConnect SpellsConnect Anywhere erased_connection
unfolding connect sees front same_mark
connect_law = record_law connection_with (λ y. (y.word, (y.outer, y.inner))) (λ x. refl) (λ x. refl) (λ y. refl)
    (then_law (mark_law mark.Connect)
    (both_law names_law (behind_law mark.And (ended_law names_law (λ i j s. (tt, end_other mark.Comma refl refl i j s)))) (λ y m j s t. (tt, ap (sees mark.Comma) s.2))))
