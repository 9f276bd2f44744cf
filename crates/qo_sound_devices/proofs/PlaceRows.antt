-- The places of the opening board, of a bridge, and of a bridge below a bridge are sound.
use Rattle.std.proofs.Common.{◌≡◌, refl, ℕ, ◌==◌, List, [], codes, if◌then◌else◌, Some, None, arith}
use Rattle.qo_model.proofs.Common.{Board, add, cut, set, acted, clocks_below, period, depth_of, is_going, opening_board, attached, path_down_to, Wanted, plug, drop_slot, finish, finalize, finalize_within, let_go, pin, unpin, plugged, post, pulse, released, types, apart_within, detach, unrealize, least}
use Rattle.qo_model.specs.Reset.{after_hold}
use Rattle.qo_sound.proofs.TestLemmas.{clash as differs, clash-back as never}
use Rattle.qo_sound_devices.specs.SoundPlaces.{SoundPlaces, machines, bridges, on_machine, on_device}
use Rattle.qo_sound_devices.proofs.CheckLemmas.{Checked, checked-sound}

-- what does not compute so
unnamed : {A : Type 0} {x : List ℕ} → None ≡ Some x → A
unnamed e = absurd cc

-- a board with the objects of the opening board, whatever else it has been through
objects-opening : (b : Board) → Checked (record b { records = opening_board.records })
unfolding types opening_board
objects-opening b =
    record {
      machine = refl;
      objects = refl;
      parts = (refl, (refl, (refl, (refl, (refl, tt)))));
      located = record { root = refl; machine = refl; peripheral = refl; anonymous = refl };
      children = (
        (record { bus = never; device = never }, (record { bus = never; device = never }, tt)),
        (
          (
            record { bus = never; device = never },
            (
              record { bus = never; device = never },
              (
                record { bus = never; device = never },
                (record { bus = λ e. on_machine refl; device = never }, (record { bus = λ e. on_machine refl; device = never }, tt)),
              ),
            ),
          ),
          (tt, (tt, (tt, (tt, (tt, (tt, tt)))))),
        ),
      );
      aside = (refl, (refl, (refl, (refl, (refl, (refl, (refl, tt)))))));
      peripheral = tt;
      anonymous = tt;
      kids = (λ e. tt, (λ e. tt, (λ e. tt, (λ e. tt, (λ e. tt, (λ e. tt, (λ e. tt, (λ e. tt, tt))))))));
      depth = λ q. 0;
      top = (refl, (refl, tt));
      named = tt;
      numbered = tt;
      only = (never, (never, (never, (never, (never, (never, (never, (never, tt))))))));
      ids = (λ id. unnamed, (λ id. unnamed, (λ id. unnamed, (λ id. unnamed, (λ id. unnamed, (λ id. unnamed, (λ id. unnamed, (λ id. unnamed, tt))))))));
      once = tt;
    }

pub opening-places : SoundPlaces opening_board
opening-places = checked-sound opening_board (objects-opening opening_board)

abbrev wanted : List ℕ → Wanted
wanted id = record { driver = codes "slot-bridge"; id = Some id; bus = None; props = [] }

-- a bridge, and one below it that has no id
abbrev one : Board
one = (plug opening_board (wanted (codes "br"))).board

abbrev two : Board
two = (plug one (record { driver = codes "slot-bridge"; id = None; bus = Some (codes "br/bus.0"); props = [] })).board

abbrev depth_two : ℕ → ℕ
depth_two q = if q == 11 then 1 else if q == 14 then 2 else 0

places-two : Checked two
unfolding types opening_board path_down_to attached drop_slot finish finalize finalize_within let_go pin unpin add set cut acted period clocks_below depth_of
    is_going plug plugged post after_hold released pulse least
places-two =
    record {
      machine = refl;
      objects = refl;
      parts = (refl, (refl, (refl, (refl, (refl, tt)))));
      located = record { root = refl; machine = refl; peripheral = refl; anonymous = refl };
      children = (
        (record { bus = never; device = never }, (record { bus = never; device = never }, tt)),
        (
          (
            record { bus = never; device = never },
            (
              record { bus = never; device = never },
              (
                record { bus = never; device = never },
                (record { bus = λ e. on_machine refl; device = never }, (record { bus = λ e. on_machine refl; device = never }, tt)),
              ),
            ),
          ),
          (
            (record { bus = never; device = λ e. refl }, tt),
            (
              (record { bus = never; device = λ e. refl }, tt),
              (
                tt,
                (
                  tt,
                  (
                    tt,
                    (
                      tt,
                      (
                        (record { bus = never; device = never }, (record { bus = λ e. on_device refl refl; device = never }, tt)),
                        (tt, (tt, ((record { bus = never; device = never }, (record { bus = λ e. on_device refl refl; device = never }, tt)), (tt, (tt, tt))))),
                      ),
                    ),
                  ),
                ),
              ),
            ),
          ),
        ),
      );
      aside = (refl, (refl, (refl, (refl, (refl, (refl, (refl, tt)))))));
      peripheral = (record { device = refl; id = refl; path = refl }, tt);
      anonymous = (record { device = refl; id = refl; path = refl; numbered = (0, (omega arith, refl)) }, tt);
      kids = (
        λ e. tt,
        (
          λ e. tt,
          (
            λ e. tt,
            (
              λ e. tt,
              (
                λ e. tt,
                (
                  λ e. (record { there = refl; on = refl; fits = refl; slot = (0, (omega arith, (refl, refl))) }, tt),
                  (
                    λ e. tt,
                    (
                      λ e. tt,
                      (
                        never,
                        (
                          never,
                          (
                            λ e. (record { there = refl; on = refl; fits = refl; slot = (0, (omega arith, (refl, refl))) }, tt),
                            (never, (never, (λ e. tt, tt))),
                          ),
                        ),
                      ),
                    ),
                  ),
                ),
              ),
            ),
          ),
        ),
      );
      depth = depth_two;
      top = (refl, (refl, tt));
      named = (
        record {
          home = record { bus = 6; on = refl; is_bus = refl; kid = refl };
          owner = machines refl;
          below = (differs, (λ e. refl, tt));
          most = (differs, (λ e. omega arith, tt));
          each = refl;
        },
        tt,
      );
      numbered = (
        record {
          home = record { bus = 11; on = refl; is_bus = refl; kid = refl };
          owner = bridges 9 refl refl;
          below = (differs, (λ e. refl, tt));
          most = (differs, (λ e. omega arith, tt));
          each = refl;
        },
        tt,
      );
      only = (never, (never, (never, (never, (never, (never, (never, (never, (λ e. refl, (never, (never, (λ e. refl, (never, (never, tt))))))))))))));
      ids = (
        λ id. unnamed,
        (
          λ id. unnamed,
          (
            λ id. unnamed,
            (
              λ id. unnamed,
              (
                λ id. unnamed,
                (
                  λ id. unnamed,
                  (λ id. unnamed, (λ id. unnamed, (λ id e. refl, (λ id. unnamed, (λ id. unnamed, (λ id. unnamed, (λ id. unnamed, (λ id. unnamed, tt)))))))),
                ),
              ),
            ),
          ),
        ),
      );
      once = ((λ e. refl, tt), tt);
    }

pub two-places : SoundPlaces two
two-places = checked-sound two places-two

-- without the upper one, whose removal takes both
places-removed : Checked (detach two 9)
unfolding types opening_board path_down_to attached drop_slot finish finalize finalize_within let_go pin unpin add set cut acted period clocks_below depth_of
    is_going plug plugged post after_hold released pulse least unrealize apart_within detach
places-removed = objects-opening (detach two 9)
