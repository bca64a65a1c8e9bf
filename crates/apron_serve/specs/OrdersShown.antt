-- What contracts see of an order.
use Rattle.std.specs.Option.{option_copied}
use Rattle.apron_serve.specs.declared.words.Order.{Order as Read}
use Rattle.apron_serve.specs.Orders.{Order}

-- the same, with the names and digits in place of the words
abbrev pub order_shown : Read → Order
order_shown order = record {
  airport = order.airport.now;
  types = order.types.now;
  connections = order.connections;
  day = option_copied order.day;
}
