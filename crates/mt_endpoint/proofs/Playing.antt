-- The sessions by hand are sessions of two ends that keep what their calls ask for.
use Rattle.std.proofs.Common.{[], ◌∷◌, refl, arith}
use Rattle.std.proofs.lemmas.List.Elements.{All-nil, All-cons}
use Rattle.mt_base.specs.declared.kinds.Kind.TheVariants.{Reliable, Lossy}
use Rattle.mt_base.specs.Prefix.{none, taken, passed}
use Rattle.dvc_pdus.specs.Value.{IsNameByte, IsName}
use Rattle.tunnel_cookies.specs.Entries.{unspent, spent_by, again, opened as opened_first}
use Rattle.mt_endpoint.specs.Session.{name, cookie, opened, tunneled, ahead, moved}
use Rattle.mt_endpoint.specs.Sessions.{more, closed, second, both_moved, waiting, answered, lossy}
use Rattle.mt_endpoint.specs.World.{NetOfActs}

files_named : IsName name
files_named =
    (omega arith, omega arith, All-cons IsNameByte 102 (105 ∷ 108 ∷ 101 ∷ 115 ∷ []) (omega arith, omega arith) (All-cons IsNameByte 105 (108 ∷ 101 ∷ 115 ∷ []) (omega arith, omega arith) (All-cons IsNameByte 108 (101 ∷ 115 ∷ []) (omega arith, omega arith) (All-cons IsNameByte 101 (115 ∷ []) (omega arith, omega arith) (All-cons IsNameByte 115 [] (omega arith, omega arith) (All-nil IsNameByte))))))

more_named : IsName more
more_named =
    (omega arith, omega arith, All-cons IsNameByte 109 (111 ∷ 114 ∷ 101 ∷ []) (omega arith, omega arith) (All-cons IsNameByte 111 (114 ∷ 101 ∷ []) (omega arith, omega arith) (All-cons IsNameByte 114 (101 ∷ []) (omega arith, omega arith) (All-cons IsNameByte 101 [] (omega arith, omega arith) (All-nil IsNameByte)))))

net_opened : NetOfActs opened
net_opened = (
  refl,
  tt,
  ((_, refl), (_, refl), none),
  (
    refl,
    tt,
    ((_, refl), (_, refl), none),
    (
      refl,
      (refl, refl, refl, omega arith, files_named),
      ((_, refl), (_, refl), none),
      (
        refl,
        tt,
        ((_, refl), (_, refl), none),
        (
          refl,
          tt,
          ((_, refl), (_, refl), none),
          (
            refl,
            tt,
            ((_, refl), (_, refl), none),
            (
              refl,
              tt,
              ((_, refl), (_, refl), none),
              tt,
            ),
          ),
        ),
      ),
    ),
  ),
)

net_tunneled : NetOfActs tunneled
net_tunneled = (
  refl,
  tt,
  ((_, refl), (_, refl), none),
  (
    refl,
    tt,
    ((_, refl), (_, refl), none),
    (
      refl,
      (refl, opened_first (unspent Reliable cookie) refl refl refl),
      ((_, refl), (_, refl), none),
      (
        refl,
        record { asked = tt; unattached = refl; unrefused = refl },
        ((_, refl), (_, refl), none),
        (
          refl,
          tt,
          ((_, refl), (_, refl), none),
          (
            refl,
            record { asked = tt; unattached = refl; unrefused = refl },
            ((_, refl), (_, refl), none),
            (
              refl,
              (refl, refl, refl, refl),
              ((_, refl), (_, refl), none),
              net_opened,
            ),
          ),
        ),
      ),
    ),
  ),
)

net_ahead : NetOfActs ahead
net_ahead = (
  refl,
  tt,
  ((_, refl), (_, refl), none),
  (
    refl,
    (record { is_open_channel = refl; loud = refl }, omega arith, tt),
    ((_, refl), (_, refl), none),
    (
      refl,
      (refl, record { some = omega arith; may_move = (refl, refl, refl, tt); reliable_is_open = refl; lossy_is_open = tt }),
      ((_, refl), (_, refl), none),
      net_tunneled,
    ),
  ),
)

net_moved : NetOfActs moved
net_moved = (
  refl,
  tt,
  ((_, refl), (_, refl), none),
  net_ahead,
)

net_second : NetOfActs second
net_second = (
  refl,
  tt,
  ((_, refl), (_, refl), none),
  (
    refl,
    (record { is_open_channel = refl; loud = refl }, omega arith, tt),
    ((_, refl), (_, refl), none),
    (
      refl,
      (refl, record { some = omega arith; may_move = (refl, refl, refl, tt); reliable_is_open = refl; lossy_is_open = tt }),
      ((_, refl), (_, refl), none),
      (
        refl,
        tt,
        ((_, refl), (_, refl), none),
        (
          refl,
          (record { is_open_channel = refl; loud = tt }, omega arith, tt),
          ((_, refl), (_, refl), none),
          (
            refl,
            tt,
            ((_, refl), (_, refl), none),
            (
              refl,
              tt,
              ((_, refl), (_, refl), none),
              (
                refl,
                (refl, refl, refl, omega arith, more_named),
                ((_, refl), (_, refl), none),
                (
                  refl,
                  tt,
                  ((_, refl), (_, refl), none),
                  net_moved,
                ),
              ),
            ),
          ),
        ),
      ),
    ),
  ),
)

pub net_both_moved : NetOfActs both_moved
net_both_moved = (
  refl,
  tt,
  ((_, refl), (_, refl), none),
  net_second,
)

pub net_closed : NetOfActs closed
net_closed = (
  refl,
  tt,
  ((_, refl), (_, refl), none),
  (
    refl,
    tt,
    ((_, refl), (_, refl), none),
    (
      refl,
      (refl, refl),
      ((_, refl), (_, refl), none),
      net_ahead,
    ),
  ),
)

net_waiting : NetOfActs waiting
net_waiting = (
  refl,
  tt,
  ((_, refl), (_, refl), none),
  (
    refl,
    tt,
    ((_, refl), (_, refl), none),
    (
      refl,
      (refl, record { some = omega arith; may_move = (refl, refl, refl, tt); reliable_is_open = refl; lossy_is_open = tt }),
      ((_, refl), (_, refl), none),
      (
        refl,
        (refl, record { some = omega arith; may_move = (refl, refl, refl, tt); reliable_is_open = refl; lossy_is_open = tt }),
        ((_, refl), (_, refl), none),
        (
          refl,
          (refl, opened_first (unspent Reliable cookie) refl refl refl),
          ((_, refl), (_, refl), none),
          (
            refl,
            record { asked = tt; unattached = refl; unrefused = refl },
            ((_, refl), (_, refl), none),
            (
              refl,
              tt,
              ((_, refl), (_, refl), none),
              (
                refl,
                record { asked = tt; unattached = refl; unrefused = refl },
                ((_, refl), (_, refl), none),
                (
                  refl,
                  (refl, refl, refl, refl),
                  ((_, refl), (_, refl), none),
                  (
                    refl,
                    tt,
                    ((_, refl), (_, refl), none),
                    (
                      refl,
                      tt,
                      ((_, refl), (_, refl), none),
                      (
                        refl,
                        (refl, refl, refl, omega arith, more_named),
                        ((_, refl), (_, refl), none),
                        net_opened,
                      ),
                    ),
                  ),
                ),
              ),
            ),
          ),
        ),
      ),
    ),
  ),
)

pub net_answered : NetOfActs answered
net_answered = (
  refl,
  tt,
  ((_, refl), (_, refl), none),
  net_waiting,
)

pub net_lossy : NetOfActs lossy
net_lossy = (
  refl,
  tt,
  ((_, refl), (_, refl), taken _ _ _ (passed _ _ _ (passed _ _ _ (taken _ _ _ (passed _ _ _ none))))),
  (
    refl,
    (record { is_open_channel = refl; loud = refl }, omega arith, omega arith),
    ((_, refl), (_, refl), taken _ _ _ (taken _ _ _ none)),
    (
      refl,
      (record { is_open_channel = refl; loud = refl }, omega arith, omega arith),
      ((_, refl), (_, refl), taken _ _ _ (taken _ _ _ none)),
      (
        refl,
        (record { is_open_channel = refl; loud = refl }, omega arith, omega arith),
        ((_, refl), (_, refl), taken _ _ _ (taken _ _ _ none)),
        (
          refl,
          tt,
          ((_, refl), (_, refl), taken _ _ _ (passed _ _ _ none)),
          (
            refl,
            (refl, record { some = omega arith; may_move = (refl, refl, refl, tt); reliable_is_open = tt; lossy_is_open = refl }),
            ((_, refl), (_, refl), taken _ _ _ (taken _ _ _ none)),
            (
              refl,
              tt,
              ((_, refl), (_, refl), taken _ _ _ (passed _ _ _ none)),
              (
                refl,
                (refl, again (spent_by 1 (unspent Lossy cookie)) refl refl refl),
                ((_, refl), (_, refl), taken _ _ _ (taken _ _ _ none)),
                (
                  refl,
                  (refl, opened_first (unspent Lossy cookie) refl refl refl),
                  ((_, refl), (_, refl), taken _ _ _ (passed _ _ _ none)),
                  (
                    refl,
                    (refl, refl, refl),
                    ((_, refl), (_, refl), none),
                    (
                      refl,
                      record { asked = tt; unattached = refl; unrefused = refl },
                      ((_, refl), (_, refl), none),
                      (
                        refl,
                        tt,
                        ((_, refl), (_, refl), none),
                        (
                          refl,
                          record { asked = tt; unattached = refl; unrefused = refl },
                          ((_, refl), (_, refl), none),
                          (
                            refl,
                            (refl, refl, refl, refl),
                            ((_, refl), (_, refl), none),
                            net_opened,
                          ),
                        ),
                      ),
                    ),
                  ),
                ),
              ),
            ),
          ),
        ),
      ),
    ),
  ),
)
